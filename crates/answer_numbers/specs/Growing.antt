-- The trees in which places are at nodes by where they differ.
use Rattle.std.specs.Prelude.{◌≡◌, ℕ, zero, suc, ◌+◌, ◌-◌, ◌*◌, ◌/◌, ◌%◌, ◌<◌, ◌≤◌, Bool, false, List, [], ◌∷◌, length, None, nat_lt, nat_le, ◌&&◌, if◌then◌else◌}
use Rattle.net_model.specs.Answer.{bit_at}
use Rattle.net_model.specs.Rows.{bit_of}
use Rattle.word_sim.specs.declared.lanes.TheConstants.{LANES}
use Rattle.answer_numbers.specs.declared.differences.PositionLists.{PositionLists}
use Rattle.answer_numbers.specs.declared.trees.LaneTrees.{LaneTrees}
use Rattle.answer_numbers.specs.Differences.{AreLists, end_count, found_at, differs_at}
use Rattle.answer_numbers.specs.Trees.{AreTrees, way_at, way_with}

-- whether a word has a cell, if its lowest digit is that of cell `first`
abbrev pub in_word : ℕ → ℕ → ℕ → Bool
in_word first word cell = (nat_le first cell && nat_lt (cell - first) 64) && bit_of word (cell - first)

-- whether lanes have a cell, if lane 0 is that of cell `first`
abbrev pub in_lanes : ℕ → List Bool → ℕ → Bool
in_lanes first row cell = (nat_le first cell && nat_lt (cell - first) LANES) && bit_at row (cell - first)

-- whether the place of a cell differs at a position in the lane of the cell
abbrev pub differs_in_cell : PositionLists → ℕ → ℕ → ℕ → Bool
differs_in_cell lists lanes position cell = differs_at lists (cell / lanes) position (cell % lanes)

-- the numbers below a limit that pass a test, descending
abbrev pub passing_below : (ℕ → Bool) → ℕ → List ℕ
passing_below test zero = []
passing_below test (suc n) = if test n then n ∷ passing_below test n else passing_below test n

-- The lists have only places whose cells, one for each of `lanes` lanes, are among the first `cells`, and these places
-- differ in no other lanes.
pub record AreLaneLists (lanes cells : ℕ) (lists : PositionLists) : Type 0 where
  pub linked : AreLists lists
  pub few : (position place : ℕ) → position < end_count lists → cells < place * lanes + lanes → found_at lists position place ≡ None
  pub past : (position place lane : ℕ) → position < end_count lists → lanes ≤ lane → lane < LANES → differs_at lists place position lane ≡ false

-- There are `lanes` trees for `places` places, and in each lane the way of each place has the positions below `limit`
-- at which the place differs.
pub record AreWholeTrees (lists : PositionLists) (lanes places limit : ℕ) (t : LaneTrees) : Type 0 where
  pub lanes_are : t.lanes ≡ lanes
  pub cells : length t.stands.items ≡ places * lanes
  pub trees : AreTrees limit t
  pub ways : (cell : ℕ) → cell < places * lanes → way_at t cell ≡ way_with (passing_below (λ position. differs_in_cell lists lanes position cell) limit) (cell % lanes)
