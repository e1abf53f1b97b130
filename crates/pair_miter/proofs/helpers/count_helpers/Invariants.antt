use Rattle.std.proofs.Common.{◌≡◌, take}
use Rattle.std.specs.Prelude.{sum_by}
use Rattle.pair_miter.specs.Variables.{line_helpers}
use Rattle.pair_miter.proofs.helpers.count_helpers.Given as goal

abbrev pub invariant-loop-line : goal.invariant-loop-line
invariant-loop-line l = l.count ≡ sum_by (line_helpers l.numbering.circuit l.numbering.f l.numbering.g) (take l.line-index l.line-items)
