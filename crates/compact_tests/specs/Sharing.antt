-- Groups of two numbers or more, and the numbers in them.
use Rattle.std.specs.Prelude.{◌≡◌, ◌≢◌, ◌<◌, ℕ, Bool, List, length, filter, nat_lt, All, AllPairs, Contains}
use Rattle.std.specs.List.{range_with_len}
use Rattle.net_model.specs.ClassTable.{ClassTable, class_at, class_count, members, number_range}

-- Whether a group has two numbers or more.
abbrev pub has_two : ClassTable → ℕ → Bool
has_two groups group = nat_lt 1 (length (members groups group))

-- The groups of two numbers or more, ascending.
abbrev pub shared_groups : ClassTable → List ℕ
shared_groups groups = filter (has_two groups) (range_with_len 0 (class_count groups))

-- The numbers that aren't alone in their groups, ascending.
abbrev pub sharing_numbers : ClassTable → List ℕ
sharing_numbers groups = filter (λ number. has_two groups (class_at groups number)) (number_range groups)

-- The list has each number that isn't alone in its group, in ascending order, and only numbers of the groups.
pub record ListsSharing (groups : ClassTable) (listed : List ℕ) : Type 0 where
  pub within : All (λ number. number < length groups.class_of) listed
  pub ascend : AllPairs (λ x y. x < y) listed
  pub all : (a b : ℕ) → a < length groups.class_of → b < length groups.class_of → a ≢ b → class_at groups a ≡ class_at groups b → Contains listed a
