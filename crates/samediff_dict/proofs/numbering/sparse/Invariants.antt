use Rattle.std.proofs.Common.{◌≡◌, take}
use Rattle.samediff_dict.proofs.numbering.sparse.Given as goal

abbrev pub invariant-loop-number : goal.invariant-loop-number
invariant-loop-number l = l.same ≡ take l.number-index l.numbers
