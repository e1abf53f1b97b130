-- The pair sets of a circuit's lines under a cube, by one equation for each line; and what the sets at the reached
-- positions say of the cube.
use Rattle.std.specs.Prelude.{◌≡◌, ℕ, ◌<◌, List, length, find, slice_index, slice_index_or, if◌then◌else◌}
use Rattle.std.specs.Option.{option_map_or}
use Rattle.std.specs.List.{list_all}
use Rattle.net_model.specs.declared.fault.Fault.{Fault}
use Rattle.net_model.specs.Circuit.{Circuit, line_count, gate_at}
use Rattle.net_model.specs.Fault.{stuck_stem, stuck_pin, stuck_position, readings}
use Rattle.net_model.specs.Scope.{reached_positions}
use Rattle.pair_sets.specs.declared.state.PairState.{PairState}
use Rattle.pair_sets.specs.declared.state.PairState.TheVariants.{AllSame, Apart, Undecided}
use Rattle.pair_sets.specs.Cube.{Cube, fixed_bit}
use Rattle.pair_sets.specs.PairSet.{PairSet}
use Rattle.pair_sets.specs.PairSet.{free_pairs, fixed_pairs, forced_pairs, gate_pairs, only_equal, only_unequal}

-- the pairs of a source: the equal pairs of both values if it is free, and the pair of its bit if it is fixed
abbrev pub source_pairs : Cube → ℕ → PairSet
source_pairs cube source = option_map_or fixed_pairs (fixed_bit cube source) free_pairs

abbrev pub set_at : List PairSet → ℕ → PairSet
set_at sets line = slice_index_or sets line free_pairs

-- the pairs that each pin of a line's gate sees: those of the line that it reads, with the value at which a fault
-- sticks the pin put in that fault's place
abbrev pub seen_pairs : Fault → Fault → List PairSet → ℕ → List ℕ → List PairSet
seen_pairs f g sets line pins = readings (λ pin read. forced_pairs (stuck_pin f line pin) (stuck_pin g line pin) (set_at sets read)) pins

module _ (c : Circuit) (f g : Fault) where
  -- the set of a line: its source's or its gate's pairs, with the value at which a fault sticks the stem put in that
  -- fault's place
  unfoldable pub line_pairs : Cube → List PairSet → ℕ → PairSet
  line_pairs cube sets line = forced_pairs (stuck_stem f line) (stuck_stem g line) (option_map_or (λ gate. gate_pairs gate.kind (seen_pairs f g sets line gate.pins)) (gate_at c line) (source_pairs cube line))

  -- There is a set for each line, and each is the one that the line's equation gives.
  pub record ArePairSets (cube : Cube) (sets : List PairSet) : Type 0 where
    pub whole : length sets ≡ line_count c
    pub each : (line : ℕ) → line < line_count c → set_at sets line ≡ line_pairs cube sets line

  -- the pairs that a position shows: those of its line, with the value at which a fault sticks the position put in that
  -- fault's place
  unfoldable pub position_pairs : List PairSet → ℕ → PairSet
  position_pairs sets at = forced_pairs (stuck_position f at) (stuck_position g at) (set_at sets (slice_index c.positions at))

  -- `AllSame` if each reached position shows equal pairs only; else `Apart` with the lowest one that shows unequal
  -- pairs only, if there is one; else `Undecided`.
  unfoldable pub state_of : List PairSet → PairState
  state_of sets =
      if list_all (λ at. only_equal (position_pairs sets at)) (reached_positions c f g) then AllSame
      else option_map_or Apart (find (λ at. only_unequal (position_pairs sets at)) (reached_positions c f g)) Undecided

  -- The state is the one that the pair sets of the cube give.
  pub record IsState (cube : Cube) (state : PairState) : Type 0 where
    pub sets : List PairSet
    pub are : ArePairSets cube sets
    pub is : state ≡ state_of sets

  -- The pairs are what `part` gives of the pair sets of the cube.
  pub record IsPart (cube : Cube) (part : List PairSet → PairSet) (pairs : PairSet) : Type 0 where
    pub sets : List PairSet
    pub are : ArePairSets cube sets
    pub is : pairs ≡ part sets
