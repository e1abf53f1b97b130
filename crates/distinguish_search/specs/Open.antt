-- Lines from which a walk finds a free source.
use Rattle.std.specs.Prelude.{◌≡◌, ℕ, ◌<◌, ◌≤◌, true, List, IsTrue, length, slice_index, ◌||◌}
use Rattle.net_model.specs.declared.fault.Fault.{Fault}
use Rattle.net_model.specs.Circuit.{Circuit, line_count}
use Rattle.net_model.specs.Scope.{is_relevant, reached_positions}
use Rattle.pair_sets.specs.PairSet.{PairSet}
use Rattle.pair_sets.specs.Cube.{Cube}
use Rattle.pair_sets.specs.PairSet.{has_several, only_equal, only_unequal}
use Rattle.pair_sets.specs.CubeState.{set_at, position_pairs, ArePairSets}

module _ (c : Circuit) (f g : Fault) (cube : Cube) where
  -- The line is relevant, and has two pairs or more under the cube.
  pub record IsLineOpen (line : ℕ) : Type 0 where
    pub inside : line < line_count c
    pub relevant : IsTrue (is_relevant c f g line)
    pub sets : List PairSet
    pub are : ArePairSets c f g cube sets
    pub several : has_several (set_at sets line) ≡ true

  -- The position shows equal pairs only, or unequal pairs only.
  abbrev pub IsPositionDecided : ℕ → Type 0
  IsPositionDecided at = (sets : List PairSet) → ArePairSets c f g cube sets → (only_equal (position_pairs c f g sets at) || only_unequal (position_pairs c f g sets at)) ≡ true

  -- The reached positions at the places from `start` up to but not including `end` are decided.
  abbrev pub AreDecided : ℕ → ℕ → Type 0
  AreDecided start end = (place : ℕ) → start ≤ place → place < end → IsPositionDecided (slice_index (reached_positions c f g) place)

  -- The reached position at the place shows an open line.
  pub record IsPositionOpen (place : ℕ) : Type 0 where
    pub within : place < length (reached_positions c f g)
    pub shows : IsLineOpen (slice_index c.positions (slice_index (reached_positions c f g) place))
