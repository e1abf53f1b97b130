use Rattle.std.proofs.Common.{◌∙◌, ℕ, length, sym, ap, subst, arith}
use Rattle.net_model.specs.Circuit.{Circuit}
use Rattle.suspect_scores.specs.Columns.{lane_score, HasBlockMore, CanAddBlock}
use Rattle.suspect_scores.proofs.PatternSimLemmas.{injected_circuit, injected_vectors, injected_differ, injected_same, injected_columns}
use Rattle.suspect_scores.proofs.suspecting.add_number.Goals as goal

pub add_block-requires-clause-columns : goal.add_block-requires-clause-columns
add_block-requires-clause-columns c = injected_columns c.args.pattern_sim.now c.inject.new.self c.args.suspect.now.number c.inject.ensures.kept c.inject.ensures.run c.inject.ensures.differ c.args.columns.now c.requires.columns

pub add_block-requires-clause-count : goal.add_block-requires-clause-count
add_block-requires-clause-count c = omega (arith, c.live.ensures.value, c.inject.ensures.run.few)

pub add_block-requires-clause-past : goal.add_block-requires-clause-past
add_block-requires-clause-past c = injected_same c.args.pattern_sim.now c.inject.new.self c.args.suspect.now.number c.inject.ensures.kept c.inject.ensures.run c.inject.ensures.differ c.live.result c.live.ensures.value

pub add_block-requires-clause-fits : goal.add_block-requires-clause-fits
add_block-requires-clause-fits c =
    let pattern_sim = c.args.pattern_sim.now in
    let new = c.inject.new.self in
    let number = c.args.suspect.now.number in
    let count = c.live.ensures.value ∙ ap length (injected_vectors pattern_sim new number c.inject.ensures.kept c.inject.ensures.run c.inject.ensures.differ) in
    let circuit = injected_circuit pattern_sim new number c.inject.ensures.kept c.inject.ensures.run c.inject.ensures.differ in
    subst (λ (n : ℕ). CanAddBlock n (length new.sim.circuit.positions) c.args.suspect.now) (sym count)
    (subst (λ (k : Circuit). CanAddBlock (length pattern_sim.block.vectors) (length k.positions) c.args.suspect.now) (sym circuit) c.requires.room)

pub returns-clause-added : goal.returns-clause-added
returns-clause-added c =
    let pattern_sim = c.args.pattern_sim.now in
    let new = c.inject.new.self in
    let number = c.args.suspect.now.number in
    let count = c.live.ensures.value ∙ ap length (injected_vectors pattern_sim new number c.inject.ensures.kept c.inject.ensures.run c.inject.ensures.differ) in
    record {
      sim = new.sim;
      circuit = injected_circuit pattern_sim new number c.inject.ensures.kept c.inject.ensures.run c.inject.ensures.differ;
      differ = injected_differ pattern_sim new number c.inject.ensures.kept c.inject.ensures.run c.inject.ensures.differ;
      more = subst (λ (n : ℕ). HasBlockMore (lane_score c.args.columns.now new.sim c.args.first) n c.args.suspect.now c.add_block.new.suspect) count c.add_block.ensures;
    }
