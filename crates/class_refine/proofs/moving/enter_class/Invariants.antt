use Rattle.std.proofs.Common.{◌≡◌, ◌<◌, ◌⊎◌, ℕ, get_or, Contains}
use Rattle.class_refine.proofs.moving.enter_class.Given as goal

abbrev pub invariant-loop-n : goal.invariant-loop-n
invariant-loop-n l = record {
  entered : (k : ℕ) → k < l.n-index → get_or l.class_of (get_or l.numbers k 0) 0 ≡ l.class;
  others : (n : ℕ) → (get_or l.class_of n 0 ≡ get_or l.initial.class_of n 0) ⊎ Contains l.numbers n;
}
