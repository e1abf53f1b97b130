use Rattle.std.proofs.Common.{◌≡◌, ◌∙◌, ◌+◌, ◌-◌, ◌≤◌, Bool, List, Some, length, ap, subst, arith}
use Rattle.std.specs.Prelude.{slice_range}
use Rattle.table_dicts.proofs.BlockLemmas.{block_length}
use Rattle.answer_numbers.specs.AnswerNumbers.{AnswerNumbers, answer_numbers_with}
use Rattle.adaptive_planner.specs.CircuitNumbers.{AddsLanes, AreLeadsNumbered}
use Rattle.adaptive_planner.proofs.BlockNumberLemmas.{numbered_more}
use Rattle.adaptive_planner.proofs.circuit_numbers.numbers_of_leads.Goals as goal

pub loop-first-preserved : goal.loop-first-preserved
loop-first-preserved c =
    let circuit = c.args.setting.now.subject.now in
    let patterns = c.args.setting.now.patterns.now in
    let leads = c.args.leads.now in
    let so_far = c.loop-first.invariant in
    let first = c.loop-first.first in
    let end = first + c.min.result in
    let vectors = c.as_slice-vectors.result.now in
    let block = c.fill_block.ensures in
    let lanes = c.live.result in
    let numbered : c.number_block.new.self ≡ answer_numbers_with circuit leads (Some (slice_range vectors first end)) =
    c.in_ok-number_block.ensures.ok ∙ (λ i. answer_numbers_with (so_far.circuit i) (so_far.leads i) (Some (block.vectors i))) in
    let inside : end ≤ length vectors = omega (arith, c.min.ensures, so_far.within) in
    let many : lanes ≡ end - first = c.live.ensures.value ∙ (ap length block.vectors ∙ block_length vectors first end (omega arith) inside) in
    let adds : AddsLanes (answer_numbers_with circuit leads (Some (slice_range patterns first end))) lanes c.loop-first.numbers c.add_lanes.new.numbers =
    subst (λ (vs : List (List Bool)). AddsLanes (answer_numbers_with circuit leads (Some (slice_range vs first end))) lanes c.loop-first.numbers c.add_lanes.new.numbers) c.as_slice-vectors.ensures
    (subst (λ (n : AnswerNumbers). AddsLanes n lanes c.loop-first.numbers c.add_lanes.new.numbers) numbered c.in_ok-add_lanes.ensures) in
    record {
      within = inside;
      circuit = ap (λ (n : AnswerNumbers). n.circuit) numbered;
      leads = ap (λ (n : AnswerNumbers). n.leads) numbered;
      sources = block.sources ∙ so_far.sources;
      numbered = numbered_more circuit patterns leads first end lanes (omega arith) many c.loop-first.numbers c.add_lanes.new.numbers so_far.numbered adds;
    }

pub returns : goal.returns
returns c =
    let s = c.args.setting.now in
    let end : c.loop-first.first ≡ length s.patterns.now = omega (arith, c.loop-first-test.false, c.loop-first.invariant.within, ap length c.as_slice-vectors.ensures) in
    subst (λ k. AreLeadsNumbered s.subject.now s.patterns.now c.args.leads.now k c.loop-first.numbers) end c.loop-first.invariant.numbered
