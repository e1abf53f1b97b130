use Rattle.std.proofs.Common.{◌≡◌, ◌<◌, ◌+◌, ◌↔◌, ◌⊎◌, ℕ, length, take, Contains}
use Rattle.clause_pool.specs.Literal.{Literal}
use Rattle.learn_solver.specs.Needed.{IsNeededAt}
use Rattle.learn_solver.proofs.needed.mark_used.Given as goal

abbrev pub invariant-loop-pivot : goal.invariant-loop-pivot
invariant-loop-pivot l = record {
  whole : length l.marks ≡ length l.initial.marks;
  marked : (at : ℕ) → IsNeededAt l.marks at ↔ (IsNeededAt l.initial.marks at ⊎ ((at < l.before) × ((pivot : Literal) × Contains (take l._pivot-index l._pivot-items) (pivot, l.count + at + 1))));
}
