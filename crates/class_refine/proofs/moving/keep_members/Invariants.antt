use Rattle.std.proofs.Common.{◌≡◌, ◌<◌, ◌⊎◌, ℕ, [], get_or}
use Rattle.class_refine.specs.Steps.{staying}
use Rattle.class_refine.proofs.moving.keep_members.Given as goal

abbrev pub invariant-loop-at : goal.invariant-loop-at
invariant-loop-at l = record {
  done : (k : ℕ) → k < l.at → get_or l.groups (get_or l.classes k 0) [] ≡ staying l.class_of l.initial.groups (get_or l.classes k 0);
  others : (class : ℕ) → (get_or l.groups class [] ≡ get_or l.initial.groups class []) ⊎ (get_or l.groups class [] ≡ staying l.class_of l.initial.groups class);
}
