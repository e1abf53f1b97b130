-- The scope of a pair of faults as lists of marks.
use Rattle.std.specs.Prelude.{◌≡◌, ℕ, ◌<◌, Bool, false, true, List, length, Contains, slice_index, ◌⊎◌, ◌==◌, ◌||◌}
use Rattle.std.specs.Option.{option_map_or}
use Rattle.net_model.specs.declared.fault.Fault.{Fault}
use Rattle.net_model.specs.Circuit.{Circuit, line_count}
use Rattle.net_model.specs.Answer.{bit_at}
use Rattle.net_model.specs.Scope.{first_changed, is_split, is_relevant, is_reached}

-- Which lines are split, which are relevant, and which positions are reached.
pub record Scope : Type 0 where
  pub split : List Bool
  pub relevant : List Bool
  pub reached : List Bool

abbrev pub scope_with : List Bool → List Bool → List Bool → Scope
scope_with split relevant reached = record { split = split; relevant = relevant; reached = reached }

-- There is one mark for each number below `count`, and it is the result of the test.
pub record AreMarksOfTest (test : ℕ → Bool) (count : ℕ) (marks : List Bool) : Type 0 where
  pub whole : length marks ≡ count
  pub each : (n : ℕ) → n < count → bit_at marks n ≡ test n

-- This is the scope of two faults.
pub record IsScopeOf (c : Circuit) (f g : Fault) (s : Scope) : Type 0 where
  pub split : AreMarksOfTest (is_split c f g) (line_count c) s.split
  pub relevant : AreMarksOfTest (is_relevant c f g) (line_count c) s.relevant
  pub reached : AreMarksOfTest (is_reached c f g) (length c.positions) s.reached

-- whether a line is the first that a fault can change
abbrev pub is_first_changed : Fault → ℕ → Bool
is_first_changed f line = option_map_or (λ from. from == line) (first_changed f) false

-- whether a line is the first that one of two faults can change
abbrev pub begins_at : Fault → Fault → ℕ → Bool
begins_at f g line = is_first_changed f line || is_first_changed g line

-- These lines are marked, besides those that were marked before.
pub record MarksLines (lines : List ℕ) (old new : List Bool) : Type 0 where
  pub whole : length new ≡ length old
  pub lines_are : (line : ℕ) → line < length old → Contains lines line → bit_at new line ≡ true
  pub old_stay : (line : ℕ) → bit_at old line ≡ true → bit_at new line ≡ true
  pub no_others : (line : ℕ) → bit_at new line ≡ true → (bit_at old line ≡ true) ⊎ Contains lines line

-- Of `lines` lines exactly those of the reached positions are marked.
pub record AreReachedMarked (positions : List ℕ) (reached : List Bool) (lines : ℕ) (marks : List Bool) : Type 0 where
  pub whole : length marks ≡ lines
  pub shown : (at : ℕ) → at < length positions → bit_at reached at ≡ true → bit_at marks (slice_index positions at) ≡ true
  pub no_others : (line : ℕ) → bit_at marks line ≡ true → (at : ℕ) × (at < length positions) × (bit_at reached at ≡ true) × (slice_index positions at ≡ line)
