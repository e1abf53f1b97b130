-- An assignment with the list of the literals that it holds.
use Rattle.std.specs.Prelude.{◌≡◌, ◌+◌, ◌≤◌, ℕ, List, Option, Bool, Contains, length, is_none, vec_capacity}
use Rattle.std.specs.List.{count_by}
use Rattle.clause_pool.specs.Literal.{Literal}
use Rattle.refute_check.specs.declared.assignment.Assignment.{Assignment}
use Rattle.refute_check.specs.Held.{IsTrueAt}

-- How many variables have no value.
abbrev pub unset_count : List (Option Bool) → ℕ
unset_count values = count_by is_none values

-- The true literals are those of the list, each once, and the list has room for one literal of each variable.
pub record IsAssignment (a : Assignment) : Type 0 where
  pub listed : (l : Literal) → IsTrueAt a.values.items l → Contains a.trail.items l
  pub held : (l : Literal) → Contains a.trail.items l → IsTrueAt a.values.items l
  pub counted : length a.trail.items + unset_count a.values.items ≡ length a.values.items
  pub room : length a.values.items ≤ vec_capacity a.trail
