use Rattle.std.proofs.Common.{◌∙◌, ◌+◌, ap, refl, sym, arith}
use Rattle.std.specs.Prelude.{sum_by}
use Rattle.std.proofs.lemmas.List.{take_all}
use Rattle.pair_miter.specs.Variables.{line_helpers}
use Rattle.pair_miter.proofs.ClauseParts.{sum_taken}
use Rattle.pair_miter.proofs.Numbers.{line_listed, few_helpers_before, helpers_of_lines}
use Rattle.pair_miter.proofs.helpers.count_helpers.Goals as goal

pub loop-line-init : goal.loop-line-init
loop-line-init c = refl

pub line_helpers-count-requires-clause-line : goal.line_helpers-count-requires-clause-line
line_helpers-count-requires-clause-line c =
    let p = c.args.numbering.now in
    (line_listed p.circuit p.f p.g c.relevant_lines-line-items.result.now c.relevant_lines-line-items.ensures.value c.loop-line.line-index c.loop-line-test.true).0

pub line_helpers-count-requires-clause-relevant : goal.line_helpers-count-requires-clause-relevant
line_helpers-count-requires-clause-relevant c =
    let p = c.args.numbering.now in
    (line_listed p.circuit p.f p.g c.relevant_lines-line-items.result.now c.relevant_lines-line-items.ensures.value c.loop-line.line-index c.loop-line-test.true).1

pub overflow_add-count : goal.overflow_add-count
overflow_add-count c =
    let p = c.args.numbering.now in
    let lines = c.relevant_lines-line-items.result.now in
    let i = c.loop-line.line-index in
    omega (
      arith,
      c.loop-line.invariant,
      c.line_helpers-count.ensures,
      sum_taken lines i c.loop-line-test.true (line_helpers p.circuit p.f p.g),
      few_helpers_before p.circuit p.f p.g lines c.relevant_lines-line-items.ensures.value c.relevant_lines-line-items.ensures.circuit (i + 1),
    )

pub loop-line-preserved : goal.loop-line-preserved
loop-line-preserved c =
    let p = c.args.numbering.now in
    omega (arith, c.loop-line.invariant, c.line_helpers-count.ensures, sum_taken c.relevant_lines-line-items.result.now c.loop-line.line-index c.loop-line-test.true (line_helpers p.circuit p.f p.g))

pub returns : goal.returns
returns c =
    let p = c.args.numbering.now in
    let lines = c.relevant_lines-line-items.result.now in
    c.loop-line.invariant
    ∙ (ap (sum_by (line_helpers p.circuit p.f p.g)) (take_all c.loop-line.line-index lines c.loop-line-test.false)
    ∙ sym (helpers_of_lines p.circuit p.f p.g lines c.relevant_lines-line-items.ensures.value))
