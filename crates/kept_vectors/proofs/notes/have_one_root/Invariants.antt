use Rattle.std.proofs.Common.{◌≡◌, ℕ, ◌<◌, get_or}
use Rattle.kept_vectors.proofs.notes.have_one_root.Given as goal

abbrev pub invariant-loop-number : goal.invariant-loop-number
invariant-loop-number l = (k : ℕ) → k < l.number-index → get_or l.roots (get_or l.group k 0) 0 ≡ get_or l.roots (get_or l.group 0 0) 0
