use Rattle.std.proofs.Common.{◌≡◌, ◌∙◌, ◌-◌, ◌≤◌, Bool, List, Some, length, ap, subst, arith}
use Rattle.std.specs.Prelude.{slice_range}
use Rattle.table_dicts.proofs.BlockLemmas.{block_length}
use Rattle.answer_numbers.specs.AnswerNumbers.{AnswerNumbers, answer_numbers_with}
use Rattle.samediff_dict.specs.Numbered.{AreLanesAdded, AreFoundTo}
use Rattle.samediff_dict.proofs.FoundLemmas.{found_more, found_all}
use Rattle.samediff_dict.proofs.setting.candidates_of.Goals as goal

pub fill_block-requires-clause-few : goal.fill_block-requires-clause-few
fill_block-requires-clause-few c = c.end_after-end.ensures.few

pub loop-first-preserved : goal.loop-first-preserved
loop-first-preserved c =
    let circuit = c.args.setting.now.subject.now in
    let leads = c.args.leads.now in
    let so_far = c.loop-first.invariant in
    let first = c.loop-first.first in
    let end = c.end_after-end.result in
    let vectors = c.as_slice-vectors.result.now in
    let block = c.fill_block.ensures in
    let lanes = c.live.result in
    let numbered : c.number_block.new.self ≡ answer_numbers_with circuit leads (Some (slice_range vectors first end)) =
    c.in_ok-number_block.ensures.ok ∙ (λ i. answer_numbers_with (so_far.circuit i) (so_far.leads i) (Some (block.vectors i))) in
    let le : first ≤ end = omega (arith, c.end_after-end.ensures.more) in
    let many : lanes ≡ end - first = c.live.ensures.value ∙ (ap length block.vectors ∙ block_length vectors first end le c.end_after-end.ensures.within) in
    record {
      within = c.end_after-end.ensures.within;
      circuit = ap (λ (n : AnswerNumbers). n.circuit) numbered;
      leads = ap (λ (n : AnswerNumbers). n.leads) numbered;
      sources = block.sources ∙ so_far.sources;
      found = found_more end lanes le many so_far.found (subst (λ (n : AnswerNumbers). AreLanesAdded n lanes c.loop-first.patterns.items c.add_lanes.new.patterns.items) numbered c.in_ok-add_lanes.ensures);
    }

pub returns : goal.returns
returns c = λ t of.
    let s = c.args.setting.now in
    let found : AreFoundTo s.subject.now c.args.leads.now s.patterns.now c.loop-first.first c.loop-first.patterns.items =
    subst (λ (vs : List (List Bool)). AreFoundTo s.subject.now c.args.leads.now vs c.loop-first.first c.loop-first.patterns.items) c.as_slice-vectors.ensures c.loop-first.invariant.found in
    found_all s.classes.now s.subject.now s.patterns.now c.args.leads.now c.requires.leads c.requires.within t of c.loop-first.first c.loop-first.patterns.items found
    (omega (arith, c.loop-first.invariant.within, ap length c.as_slice-vectors.ensures))
