use Rattle.std.specs.Prelude.{◌≡◌, ◌+◌, take, filter, nat_le}
use Rattle.ranked_diag.specs.Ranked.{counted_numbers}
use Rattle.ranked_diag.proofs.nearest.ranks_near.Given as goal

abbrev pub invariant-loop-number : goal.invariant-loop-number
invariant-loop-number l = l.ranks.items ≡ filter (λ rank. nat_le rank.0 (l.lowest + l.within)) (counted_numbers (take l.number l.counts))
