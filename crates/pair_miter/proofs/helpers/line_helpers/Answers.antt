use Rattle.std.proofs.Common.{◌∙◌, sym, arith}
use Rattle.pair_miter.proofs.Numbers.{helpers_of_relevant, helpers_of_shared, few_line_helpers}
use Rattle.pair_miter.proofs.helpers.line_helpers.Goals as goal

pub overflow_add-result : goal.overflow_add-result
overflow_add-result c =
    let p = c.args.numbering.now in
    let both = helpers_of_relevant p.circuit p.f p.g c.args.line c.requires.relevant in
    omega (arith, both, c.copy_helpers-first.ensures, c.copy_helpers.ensures, few_line_helpers p.circuit p.f p.g c.split.ensures.circuit c.args.line c.requires.line)

pub returns-then-split : goal.returns-then-split
returns-then-split c =
    let p = c.args.numbering.now in
    let both = helpers_of_relevant p.circuit p.f p.g c.args.line c.requires.relevant in
    omega (arith, both, c.copy_helpers-first.ensures, c.copy_helpers.ensures)

pub returns-else-split : goal.returns-else-split
returns-else-split c =
    let p = c.args.numbering.now in
    let both = helpers_of_relevant p.circuit p.f p.g c.args.line c.requires.relevant in
    let none = helpers_of_shared p.circuit p.f p.g c.args.line (sym c.split.ensures.value ∙ c.if-split.false) in
    omega (arith, both, none, c.copy_helpers-first.ensures)
