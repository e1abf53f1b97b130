use Rattle.std.proofs.Common.{◌∙◌, ℕ, length, ap, subst, arith}
use Rattle.suspect_scores.specs.Columns.{lane_score}
use Rattle.suspect_scores.specs.NotedRows.{AreLinesNoted}
use Rattle.suspect_scores.proofs.PatternSimLemmas.{injected_circuit, injected_vectors, injected_differ, injected_same, injected_columns}
use Rattle.suspect_scores.proofs.explaining.note_number.Goals as goal

pub note_words-requires-clause-columns : goal.note_words-requires-clause-columns
note_words-requires-clause-columns c = injected_columns c.args.pattern_sim.now c.inject.new.self c.args.number c.inject.ensures.kept c.inject.ensures.run c.inject.ensures.differ c.args.columns.now c.requires.columns

pub note_words-requires-clause-count : goal.note_words-requires-clause-count
note_words-requires-clause-count c = omega (arith, c.live.ensures.value, c.inject.ensures.run.few)

pub note_words-requires-clause-past : goal.note_words-requires-clause-past
note_words-requires-clause-past c = injected_same c.args.pattern_sim.now c.inject.new.self c.args.number c.inject.ensures.kept c.inject.ensures.run c.inject.ensures.differ c.live.result c.live.ensures.value

pub note_words-requires-clause-wide : goal.note_words-requires-clause-wide
note_words-requires-clause-wide c = omega (arith, c.requires.wide, c.live.ensures.value, ap length (injected_vectors c.args.pattern_sim.now c.inject.new.self c.args.number c.inject.ensures.kept c.inject.ensures.run c.inject.ensures.differ))

pub returns-clause-noted : goal.returns-clause-noted
returns-clause-noted c =
    let pattern_sim = c.args.pattern_sim.now in
    let new = c.inject.new.self in
    let number = c.args.number in
    let count = c.live.ensures.value ∙ ap length (injected_vectors pattern_sim new number c.inject.ensures.kept c.inject.ensures.run c.inject.ensures.differ) in
    record {
      sim = new.sim;
      circuit = injected_circuit pattern_sim new number c.inject.ensures.kept c.inject.ensures.run c.inject.ensures.differ;
      differ = injected_differ pattern_sim new number c.inject.ensures.kept c.inject.ensures.run c.inject.ensures.differ;
      noted = subst (λ (n : ℕ). AreLinesNoted (lane_score c.args.columns.now new.sim c.args.first) c.args.first n c.args.rows.now c.note_words.new.rows c.args.row) count c.note_words.ensures;
    }
