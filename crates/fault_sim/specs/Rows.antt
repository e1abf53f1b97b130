-- Rows of lanes, most of which are all false.
use Rattle.std.specs.Prelude.{◌≡◌, ℕ, ◌<◌, Bool, false, List, [], length, slice_index_or, Contains, IsTrue}
use Rattle.net_model.specs.Answer.{bit_at}
use Rattle.word_sim.specs.declared.lanes.TheConstants.{LANES}

-- a row for each number, the numbers whose rows were set, and for how many of these there is room
pub record Rows : Type 0 where
  pub rows : List (List Bool)
  pub listed : List ℕ
  pub room : ℕ

abbrev pub rows_with : List (List Bool) → List ℕ → ℕ → Rows
rows_with rows listed room = record { rows = rows; listed = listed; room = room }

-- The row is false in every lane.
abbrev pub IsFalse : List Bool → Type 0
IsFalse row = (lane : ℕ) → lane < LANES → bit_at row lane ≡ false

-- The row is true in some lane.
abbrev pub IsTrueSomewhere : List Bool → Type 0
IsTrueSomewhere row = (lane : ℕ) × (lane < LANES) × IsTrue (bit_at row lane)

-- All rows are false except those of these numbers.
abbrev pub AreFalseBut : List ℕ → List (List Bool) → Type 0
AreFalseBut listed rows = (at : ℕ) → at < length rows → (Contains listed at → ⊥) → IsFalse (slice_index_or rows at [])
