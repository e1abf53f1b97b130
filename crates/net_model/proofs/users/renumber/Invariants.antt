use Rattle.std.proofs.Common.{◌≡◌, ◌<◌, ◌≤◌, ℕ, length, get_or}
use Rattle.net_model.proofs.users.renumber.Given as goal

abbrev pub invariant-loop-user : goal.invariant-loop-user
invariant-loop-user l = record {
  whole : length l.user-items ≡ length l.fn.users.items;
  done : (k : ℕ) → k < l.user-index → get_or l.user-items k 0 ≡ get_or l.numbers (get_or l.fn.users.items k 0) 0;
  rest : (k : ℕ) → l.user-index ≤ k → get_or l.user-items k 0 ≡ get_or l.fn.users.items k 0;
}
