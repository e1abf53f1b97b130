use Rattle.std.proofs.Common.{◌≡◌, take}
use Rattle.pair_miter.specs.SplitLines.{all_copies}
use Rattle.pair_miter.proofs.split.split_lines.Given as goal

abbrev pub invariant-loop-line : goal.invariant-loop-line
invariant-loop-line l = l.copies.items ≡ all_copies l.numbering.circuit l.numbering.f l.numbering.g (take l.line-index l.line-items)
