use Rattle.std.proofs.Common.{arith}
use Rattle.pair_miter.proofs.Numbers.{line_variable-below, line_variable-from, few_of_lines}
use Rattle.pair_miter.proofs.miter.copy_bit.Goals as goal

pub overflow_sub-variable : goal.overflow_sub-variable
overflow_sub-variable c =
    let p = c.args.numbering.now in
    omega (arith, c.variable.ensures, line_variable-from p.circuit p.f p.g c.args.side c.args.line)

pub get-requires : goal.get-requires
get-requires c =
    let p = c.args.numbering.now in
    let below = line_variable-below p.circuit p.f p.g c.args.side c.args.line c.requires.line c.requires.relevant in
    omega (arith, c.variable.ensures, line_variable-from p.circuit p.f p.g c.args.side c.args.line, below, few_of_lines p.circuit p.f p.g, c.requires.whole)
