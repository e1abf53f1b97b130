-- What is true of the fields of the set literals.
use Rattle.std.specs.Prelude.{◌≡◌, ℕ, ◌+◌, ◌<◌, List, length, slice_index_or, All, Option, None, Some, is_none}
use Rattle.std.specs.List.{HoldsAt, count_by}
use Rattle.clause_pool.specs.Literal.{Literal}
use Rattle.solver_trail.specs.declared.set_literals.SetLiteral.{SetLiteral}
use Rattle.solver_trail.specs.declared.set_literals.Slot.{Slot}
use Rattle.solver_trail.specs.Assignment.{literals_of, IsInside, AreInLevels}

-- The slot of a literal that is at this place.
abbrev pub literal_slot : Literal → ℕ → Slot
literal_slot l place = record { positive = l.positive; place = place }

-- The slot of each set literal's variable has its sign and place, and the other slots are open. There is a slot for
-- each variable and one for number 0, and each set literal is of one of the variables.
pub record ArePlaced (variables : ℕ) (literals : List Literal) (entries : List SetLiteral) (slots : List (Option Slot)) : Type 0 where
  pub same : literals ≡ literals_of entries
  pub table : length slots ≡ variables + 1
  pub inside : All (IsInside variables) entries
  pub slot : (k : ℕ) (d : SetLiteral) → k < length entries
      → slice_index_or slots (slice_index_or entries k d).literal.variable None ≡ Some (literal_slot (slice_index_or entries k d).literal k)
  pub entry : (variable : ℕ) (s : Slot) → slice_index_or slots variable None ≡ Some s
      → (s.place < length entries) × HoldsAt (λ (e : SetLiteral). e.literal ≡ record { variable = variable; positive = s.positive }) entries s.place
  pub count : length entries + count_by is_none slots ≡ length slots

-- The set literals are in their slots, their levels follow one another from 0 to the present one, and there is room
-- for one literal of each variable.
pub record IsStack (variables level : ℕ) (literals : List Literal) (entries : List SetLiteral) (slots : List (Option Slot)) (literal_capacity entry_capacity : ℕ) : Type 0 where
  pub placed : ArePlaced variables literals entries slots
  pub levels : AreInLevels 0 entries level
  pub literal_room : variables < literal_capacity
  pub entry_room : variables < entry_capacity
