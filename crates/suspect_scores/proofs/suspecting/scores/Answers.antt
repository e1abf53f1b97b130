use Rattle.std.proofs.Common.{◌≡◌, ◌∙◌, ◌+◌, ◌<◌, ◌≤◌, ◌^◌, List, Bool, length, ap, subst, arith}
use Rattle.std.specs.Prelude.{slice_range}
use Rattle.net_model.specs.Circuit.{Circuit, IsCircuit}
use Rattle.table_dicts.proofs.BlockLemmas.{block_end}
use Rattle.table_dicts.specs.declared.pattern_sim.PatternSim.{PatternSim}
use Rattle.suspect_scores.specs.NotedRows.{AreAdded}
use Rattle.suspect_scores.proofs.PatternSimLemmas.{can_add, scored_begun, scored_more, scored_all}
use Rattle.suspect_scores.proofs.suspecting.scores.Goals as goal

pub loop-first-init : goal.loop-first-init
loop-first-init c = record {
  pattern_sim = c.in_ok-pattern_sim.ensures.pattern_sim;
  circuit = c.in_ok-pattern_sim.ensures.circuit;
  within = omega arith;
  scored = scored_begun c.args.setting.now c.args.logged.now c.args.numbers.now c.in_ok-scores.scores.items c.in_ok-scores.ensures;
}

pub add_lines-requires-clause-room : goal.add_lines-requires-clause-room
add_lines-requires-clause-room c = λ k d h.
    let so_far = c.loop-first.invariant in
    let patterns = c.as_slice-patterns.result.now in
    let first = c.loop-first.first in
    let end = c.run-end.result in
    let vectors = c.run-end.new.self.block.vectors in
    let circuit = c.run-end.new.self.good.circuit in
    let order : first ≤ end = omega (arith, c.run-end.ensures.end) in
    let within : end ≤ length patterns = omega (arith, c.run-end.ensures.end) in
    let last = block_end circuit patterns vectors first end c.run-end.ensures.vectors order within in
    let known : k < length c.args.numbers.now = omega (arith, h, so_far.scored.count) in
    let few : first + length vectors < 2 ^ 32 = omega (arith, last, within, ap length c.as_slice-patterns.ensures.value, c.requires.answered.answerable.few) in
    let wide : length circuit.positions < 2 ^ 32 = omega (arith, c.run-end.ensures.run.pattern_sim.circuit.small) in
    can_add first (length vectors) (length circuit.positions) _ (so_far.scored.small k d known) few wide

pub loop-first-preserved : goal.loop-first-preserved
loop-first-preserved c =
    let so_far = c.loop-first.invariant in
    let s = c.args.setting.now in
    let logged = c.args.logged.now in
    let numbers = c.args.numbers.now in
    let patterns = c.as_slice-patterns.result.now in
    let first = c.loop-first.first in
    let end = c.run-end.result in
    let vectors = c.run-end.new.self.block.vectors in
    let old = c.loop-first.scores.items in
    let new = c.add_lines.new.scores.items in
    let same : patterns ≡ logged.patterns.items = c.as_slice-patterns.ensures.value in
    let order : first ≤ end = omega (arith, c.run-end.ensures.end) in
    let within : end ≤ length patterns = omega (arith, c.run-end.ensures.end) in
    let inside : end ≤ length logged.patterns.items = omega (arith, within, ap length same) in
    let block : vectors ≡ slice_range logged.patterns.items first end = c.run-end.ensures.vectors ∙ ap (λ (ps : List (List Bool)). slice_range ps first end) same in
    let circuit : c.run-end.new.self.good.circuit ≡ s.subject.now = c.run-end.ensures.circuit ∙ so_far.circuit in
    let built : IsCircuit s.subject.now = subst IsCircuit circuit c.run-end.ensures.run.pattern_sim.circuit in
    let added = subst (λ (k : Circuit). AreAdded k vectors logged.columns first old new) circuit c.add_lines.ensures.added in
    record {
      pattern_sim = c.add_lines.ensures.run.pattern_sim;
      circuit = ap (λ (b : PatternSim). b.good.circuit) c.add_lines.ensures.pattern_sim ∙ circuit;
      within = within;
      scored = scored_more s logged numbers vectors first end block order inside c.requires.numbers old new (omega (arith, built.small)) so_far.scored added;
    }

pub loop-first-smaller : goal.loop-first-smaller
loop-first-smaller c = omega (arith, c.run-end.ensures.end)

pub returns : goal.returns
returns c = λ lines table is are.
    let so_far = c.loop-first.invariant in
    let all : c.loop-first.first ≡ length c.args.logged.now.patterns.items = omega (arith, c.loop-first-test.false, so_far.within, ap length c.as_slice-patterns.ensures.value) in
    scored_all c.args.setting.now c.args.logged.now c.args.numbers.now c.loop-first.scores.items c.loop-first.first all so_far.scored lines table is are
