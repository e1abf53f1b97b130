use Rattle.std.proofs.Common.{◌≡◌, ◌<◌, ◌≤◌, ◌⊎◌, ℕ, [], get_or, All}
use Rattle.class_refine.specs.Steps.{IsMove}
use Rattle.class_refine.proofs.moving.enter_classes.Given as goal

abbrev pub invariant-loop-class : goal.invariant-loop-class
invariant-loop-class l = (after : ℕ → ℕ) → IsMove l.initial.class_of l.groups l.first after → record {
  entered : (class : ℕ) → l.first ≤ class → class < l.class → All (λ n. get_or l.class_of n 0 ≡ after n) (get_or l.groups class []);
  others : (n : ℕ) → (get_or l.class_of n 0 ≡ get_or l.initial.class_of n 0) ⊎ (get_or l.class_of n 0 ≡ after n);
}
