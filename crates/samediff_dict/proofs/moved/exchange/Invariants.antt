use Rattle.std.proofs.Common.{◌≡◌, ◌+◌, ◌<◌, ◌≤◌, ℕ, get_or}
use Rattle.samediff_dict.proofs.moved.exchange.Given as goal

abbrev pub invariant-loop-place : goal.invariant-loop-place
invariant-loop-place l = record {
  done : (k : ℕ) → k < l.place → get_or l.gains k 0 + get_or l.fewer k 0 ≡ get_or l.initial.gains k 0 + get_or l.more k 0;
  left : (k : ℕ) → l.place ≤ k → get_or l.gains k 0 ≡ get_or l.initial.gains k 0;
}
