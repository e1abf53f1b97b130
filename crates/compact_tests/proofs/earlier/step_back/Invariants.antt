use Rattle.std.proofs.Common.{◌≡◌, ◌<◌, ◌≤◌, ℕ, get_or}
use Rattle.std.specs.Prelude.{All}
use Rattle.net_model.specs.ClassTable.{class_count}
use Rattle.compact_tests.specs.Earlier.{class_before}
use Rattle.compact_tests.proofs.earlier.step_back.Given as goal

abbrev pub invariant-loop-class : goal.invariant-loop-class
invariant-loop-class l = record {
  done : (k : ℕ) → k < l.class-index → get_or l.earlier k 0 ≡ class_before l.classes.births l.pattern (get_or l.initial.earlier k 0);
  rest : (k : ℕ) → l.class-index ≤ k → get_or l.earlier k 0 ≡ get_or l.initial.earlier k 0;
  within : All (λ class. class < class_count l.classes) l.earlier;
}
