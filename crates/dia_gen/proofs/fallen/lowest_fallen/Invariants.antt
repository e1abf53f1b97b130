use Rattle.std.proofs.Common.{◌≡◌, ◌≤◌, ◌<◌, ℕ, length}
use Rattle.net_model.specs.ClassTable.{class_at, representative}
use Rattle.dia_gen.proofs.fallen.lowest_fallen.Given as goal

abbrev pub invariant-loop-class : goal.invariant-loop-class
invariant-loop-class l = record {
  within : l.lowest ≤ l.limit;
  leads : (n : ℕ) → n < l.lowest → n < length l.classes.class_of → l.first ≤ class_at l.classes n → class_at l.classes n < l.class → representative l.classes (class_at l.classes n) ≡ n;
}
