use Rattle.std.proofs.Common.{◌≡◌, ◌∙◌, ◌-◌, List, Bool, length, get_or, sym, ap, subst, arith}
use Rattle.std.specs.Prelude.{slice_range}
use Rattle.net_model.specs.Circuit.{IsCircuit}
use Rattle.dict_rows.specs.AnswerTable.{AreAnswerable, answer_to}
use Rattle.samediff_dict.proofs.EvaluatedLemmas.{evaluated_answers, evaluated_are}
use Rattle.samediff_dict.proofs.MadeLemmas.{length-range, answerable_range, range_answers}
use Rattle.samediff_dict.proofs.setting.number_answers.Goals as goal

pub slice_bounds-some-end : goal.slice_bounds-some-end
slice_bounds-some-end c = omega (arith, ap length c.as_slice-patterns.ensures, c.requires.end)

pub number_answers_at-requires-clause-answerable : goal.number_answers_at-requires-clause-answerable
number_answers_at-requires-clause-answerable c =
    let setting = c.args.setting.now in
    subst (λ (ps : List (List Bool)). AreAnswerable setting.subject.now (slice_range ps c.args.first c.args.end)) (sym c.as_slice-patterns.ensures)
    (answerable_range c.requires.setting.answerable c.args.first c.args.end c.requires.end)

pub returns : goal.returns
returns c =
    let circuit = c.args.setting.now.subject.now in
    let is = subst IsCircuit c.circuit.ensures.value c.stands.ensures in
    let patterns = c.args.setting.now.patterns.now in
    let first = c.args.first in
    let end = c.args.end in
    let same = c.as_slice-patterns.ensures in
    let some = slice_range c.as_slice-patterns.result.now first end in
    let long : length some ≡ end - first = ap (λ (ps : List (List Bool)). length (slice_range ps first end)) same ∙ length-range patterns first end c.requires.end in
    let table = c.in_ok-table.ensures in
    record {
      sizes = record { patterns_are = table.sizes.patterns_are ∙ long; numbers_are = table.sizes.numbers_are; positions_are = table.sizes.positions_are };
      each = λ t of pattern place h hp.
          let number = get_or c.args.numbers.now place 0 in
          table.answers (evaluated_answers circuit some) (evaluated_are circuit is some) pattern place (omega (arith, long, h)) hp
          ∙ (ap (λ (ps : List (List Bool)). answer_to (evaluated_answers circuit (slice_range ps first end)) pattern number) same ∙ range_answers circuit is patterns first end pattern number h c.requires.end t of);
    }
