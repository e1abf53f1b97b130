-- Cuts in some of the classes.
use Rattle.std.specs.Prelude.{◌≡◌, ◌<◌, ◌⊎◌, ℕ, Bool, List, length, All, Contains}
use Rattle.std.specs.List.Sorted.{IsStrictlyIncreasing}
use Rattle.net_model.specs.ClassTable.{ClassTable, class_count, class_at, answer_at}

-- These are classes of the table, ascending.
pub record AreClassesOf (t : ClassTable) (classes : List ℕ) : Type 0 where
  pub within : All (λ class. class < class_count t) classes
  pub ascend : IsStrictlyIncreasing classes

-- Two numbers of one class answer alike, unless the class is one of these.
abbrev pub AreAlikeElsewhere : ClassTable → List (List Bool) → List ℕ → Type 0
AreAlikeElsewhere t row classes = (m n : ℕ) → m < length t.class_of → n < length t.class_of → class_at t m ≡ class_at t n → (answer_at t row m ≡ answer_at t row n) ⊎ Contains classes (class_at t m)
