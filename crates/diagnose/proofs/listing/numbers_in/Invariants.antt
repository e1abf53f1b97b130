use Rattle.std.proofs.Common.{◌≡◌, eqb, get_or}
use Rattle.std.specs.Prelude.{filter}
use Rattle.std.specs.List.{range_with_len}
use Rattle.diagnose.proofs.listing.numbers_in.Given as goal

abbrev pub invariant-loop-number : goal.invariant-loop-number
invariant-loop-number l = l.listed.items ≡ filter (λ n. eqb (get_or l.groups n 0) l.group) (range_with_len 0 l.number)
