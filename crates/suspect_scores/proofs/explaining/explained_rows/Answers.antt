use Rattle.std.proofs.Common.{◌≡◌, ◌∙◌, ◌≤◌, List, Bool, length, ap, subst, arith}
use Rattle.std.specs.Prelude.{slice_range}
use Rattle.net_model.specs.Circuit.{Circuit}
use Rattle.table_dicts.proofs.BlockLemmas.{block_end}
use Rattle.table_dicts.specs.declared.pattern_sim.PatternSim.{PatternSim}
use Rattle.suspect_scores.specs.NotedRows.{AreNoted}
use Rattle.suspect_scores.proofs.PatternSimLemmas.{explained_more, explained_all}
use Rattle.suspect_scores.proofs.explaining.explained_rows.Goals as goal

pub note_lines-requires-clause-wide : goal.note_lines-requires-clause-wide
note_lines-requires-clause-wide c = λ k d h.
    let patterns = c.as_slice-patterns.result.now in
    let first = c.loop-first.first in
    let end = c.run-end.result in
    let vectors = c.run-end.new.self.block.vectors in
    let order : first ≤ end = omega (arith, c.run-end.ensures.end) in
    let within : end ≤ length patterns = omega (arith, c.run-end.ensures.end) in
    let last = block_end c.run-end.new.self.good.circuit patterns vectors first end c.run-end.ensures.vectors order within in
    omega (arith, c.loop-first.invariant.explained.shape.width_is k d h, last, within, ap length c.as_slice-patterns.ensures.value)

pub loop-first-preserved : goal.loop-first-preserved
loop-first-preserved c =
    let so_far = c.loop-first.invariant in
    let s = c.args.setting.now in
    let logged = c.args.logged.now in
    let numbers = c.args.numbers.now in
    let patterns = c.as_slice-patterns.result.now in
    let first = c.loop-first.first in
    let end = c.run-end.result in
    let vectors = c.run-end.new.self.block.vectors in
    let same : patterns ≡ logged.patterns.items = c.as_slice-patterns.ensures.value in
    let order : first ≤ end = omega (arith, c.run-end.ensures.end) in
    let within : end ≤ length patterns = omega (arith, c.run-end.ensures.end) in
    let inside : end ≤ length logged.patterns.items = omega (arith, within, ap length same) in
    let block : vectors ≡ slice_range logged.patterns.items first end = c.run-end.ensures.vectors ∙ ap (λ (ps : List (List Bool)). slice_range ps first end) same in
    let circuit : c.run-end.new.self.good.circuit ≡ s.subject.now = c.run-end.ensures.circuit ∙ so_far.circuit in
    let noted = subst (λ (k : Circuit). AreNoted k vectors logged.columns first c.loop-first.rows c.note_lines.new.rows numbers (length numbers)) circuit c.note_lines.ensures.noted in
    record {
      pattern_sim = c.note_lines.ensures.run.pattern_sim;
      circuit = ap (λ (b : PatternSim). b.good.circuit) c.note_lines.ensures.pattern_sim ∙ circuit;
      within = within;
      aligned = λ h. omega (arith, h, c.run-end.ensures.end, so_far.aligned c.loop-first-test.true);
      explained = explained_more s logged numbers vectors first end block order inside c.requires.numbers c.loop-first.rows c.note_lines.new.rows so_far.explained noted;
    }

pub loop-first-smaller : goal.loop-first-smaller
loop-first-smaller c = omega (arith, c.run-end.ensures.end)

pub returns-clause-rows : goal.returns-clause-rows
returns-clause-rows c = λ lines table is are.
    let so_far = c.loop-first.invariant in
    let all : c.loop-first.first ≡ length c.args.logged.now.patterns.items = omega (arith, c.loop-first-test.false, so_far.within, ap length c.as_slice-patterns.ensures.value) in
    explained_all c.args.setting.now c.args.logged.now c.args.numbers.now c.loop-first.rows c.loop-first.first all so_far.explained lines table is are
