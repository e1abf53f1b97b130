use Rattle.std.proofs.Common.{◌+◌, refl, arith}
use Rattle.pair_miter.specs.Variables.{line_variables}
use Rattle.pair_miter.proofs.ClauseParts.{sum_taken}
use Rattle.pair_miter.proofs.Numbers.{line_listed, few_before}
use Rattle.pair_miter.proofs.NumberedLines.{numbered_more, all_numbered, numbered_end}
use Rattle.pair_miter.proofs.numbering.number_lines.Goals as goal

pub loop-line-init : goal.loop-line-init
loop-line-init c = record { whole = c.requires.whole; end = refl; each = λ k h. absurd (omega arith) }

pub index_mut-requires : goal.index_mut-requires
index_mut-requires c =
    let p = c.args.scope.now in
    omega (arith, c.loop-line.invariant.whole, (line_listed p.circuit p.f p.g c.relevant_lines-line-items.result.now c.relevant_lines-line-items.ensures.lines c.loop-line.line-index c.loop-line-test.true).0)

pub line_variables-end-requires-clause-line : goal.line_variables-end-requires-clause-line
line_variables-end-requires-clause-line c =
    let p = c.args.scope.now in
    (line_listed p.circuit p.f p.g c.relevant_lines-line-items.result.now c.relevant_lines-line-items.ensures.lines c.loop-line.line-index c.loop-line-test.true).0

pub line_variables-end-requires-clause-relevant : goal.line_variables-end-requires-clause-relevant
line_variables-end-requires-clause-relevant c =
    let p = c.args.scope.now in
    (line_listed p.circuit p.f p.g c.relevant_lines-line-items.result.now c.relevant_lines-line-items.ensures.lines c.loop-line.line-index c.loop-line-test.true).1

pub overflow_add-end : goal.overflow_add-end
overflow_add-end c =
    let p = c.args.scope.now in
    let lines = c.relevant_lines-line-items.result.now in
    let i = c.loop-line.line-index in
    omega (
      arith,
      c.loop-line.invariant.end,
      c.line_variables-end.ensures,
      sum_taken lines i c.loop-line-test.true (line_variables p.circuit p.f p.g),
      few_before p.circuit p.f p.g lines c.relevant_lines-line-items.ensures.lines c.requires.circuit (i + 1),
    )

pub loop-line-preserved : goal.loop-line-preserved
loop-line-preserved c =
    let p = c.args.scope.now in
    numbered_more p.circuit p.f p.g c.relevant_lines-line-items.result.now c.relevant_lines-line-items.ensures.lines c.loop-line.line-index c.loop-line.end c.line_variables-end.result c.loop-line.firsts.items
    c.loop-line-test.true c.line_variables-end.ensures c.loop-line.invariant

pub returns-clause-firsts : goal.returns-clause-firsts
returns-clause-firsts c =
    let p = c.args.scope.now in
    all_numbered p.circuit p.f p.g c.relevant_lines-line-items.result.now c.relevant_lines-line-items.ensures.lines c.loop-line.line-index c.loop-line.end c.loop-line.firsts.items c.loop-line-test.false c.loop-line.invariant

pub returns-clause-end : goal.returns-clause-end
returns-clause-end c =
    let p = c.args.scope.now in
    numbered_end p.circuit p.f p.g c.relevant_lines-line-items.result.now c.relevant_lines-line-items.ensures.lines c.loop-line.line-index c.loop-line.end c.loop-line.firsts.items c.loop-line-test.false c.loop-line.invariant
