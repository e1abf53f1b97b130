-- Groups of numbers of two classes or more, if the numbers of a class are always in one group.
use Rattle.std.specs.Prelude.{◌≡◌, ◌≢◌, ◌<◌, ℕ, Bool, List, length, filter, nat_lt, All, AllPairs, Contains}
use Rattle.std.specs.List.{range_with_len}
use Rattle.net_model.specs.ClassTable.{ClassTable, class_at, class_count, members, representative}

-- Whether a group has more numbers than the class of its lowest one.
abbrev pub exceeds_class : ClassTable → ClassTable → ℕ → Bool
exceeds_class classes groups group = nat_lt (length (members classes (class_at classes (representative groups group)))) (length (members groups group))

-- The groups that contain numbers of two classes or more, ascending.
abbrev pub mixed_groups : ClassTable → ClassTable → List ℕ
mixed_groups classes groups = filter (exceeds_class classes groups) (range_with_len 0 (class_count groups))

-- The classes that share a group with others, ascending.
abbrev pub mixed_classes : ClassTable → ClassTable → List ℕ
mixed_classes classes groups = filter (λ class. exceeds_class classes groups (class_at groups (representative classes class))) (range_with_len 0 (class_count classes))

-- The list has each class that shares a group with another, in ascending order, and only classes of the table.
pub record ListsMixed (classes groups : ClassTable) (listed : List ℕ) : Type 0 where
  pub within : All (λ class. class < class_count classes) listed
  pub ascend : AllPairs (λ x y. x < y) listed
  pub all : (a b : ℕ) → a < length classes.class_of → b < length classes.class_of → class_at classes a ≢ class_at classes b → class_at groups a ≡ class_at groups b → Contains listed (class_at classes a)
