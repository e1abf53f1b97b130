-- What is kept of the observed positions: the pairs that the reached ones show.
use Rattle.std.specs.Prelude.{◌≡◌, ℕ, ◌<◌, ◌≤◌, List, [], length, slice_index_or, vec_capacity, All, Contains, if◌then◌else◌}
use Rattle.net_model.specs.declared.fault.Fault.{Fault}
use Rattle.net_model.specs.Circuit.{Circuit}
use Rattle.net_model.specs.Scope.{is_reached, reached_positions}
use Rattle.event_queue.specs.Pending.{IsEmpty}
use Rattle.pair_sets.specs.declared.tally.Tally.{Tally}
use Rattle.pair_sets.specs.PairSet.{PairSet, free_pairs}
use Rattle.pair_sets.specs.CubeState.{position_pairs}

-- The tally has a place for each of `count` positions, and room to list all of them. None waits.
pub record HasTallyPlaces (count : ℕ) (tally : Tally) : Type 0 where
  pub whole : length tally.shown ≡ count
  pub none_waits : IsEmpty tally.waiting
  pub queue_room : length tally.waiting ≡ count
  pub room : count ≤ vec_capacity tally.reached

-- The listed positions have places, and all other positions keep the equal pairs of both values.
pub record IsBlankBut (reached : List ℕ) (shown : List PairSet) : Type 0 where
  pub within : All (λ at. at < length shown) reached
  pub others : (at : ℕ) → (Contains reached at → ⊥) → slice_index_or shown at free_pairs ≡ free_pairs

-- No position is listed, and each keeps the equal pairs of both values.
pub record IsTallyBlank (tally : Tally) : Type 0 where
  pub reached : tally.reached.items ≡ []
  pub free : (at : ℕ) → slice_index_or tally.shown at free_pairs ≡ free_pairs

module _ (c : Circuit) (f g : Fault) where
  -- the pairs that a position shows if it is reached, and else the equal pairs of both values
  abbrev pub kept_pairs : List PairSet → ℕ → PairSet
  kept_pairs sets at = if is_reached c f g at then position_pairs c f g sets at else free_pairs

  -- The position keeps the right pairs.
  abbrev pub IsShownAt : List PairSet → List PairSet → ℕ → Type 0
  IsShownAt sets shown at = slice_index_or shown at free_pairs ≡ kept_pairs sets at

  -- Each position keeps the right pairs.
  abbrev pub ArePairsShown : List PairSet → List PairSet → Type 0
  ArePairsShown sets shown = (at : ℕ) → at < length c.positions → IsShownAt sets shown at

  -- The list has the positions that the two faults reach, and there is a place for each position.
  pub record IsTally (tally : Tally) : Type 0 where
    pub reached : tally.reached.items ≡ reached_positions c f g
    pub places : HasTallyPlaces (length c.positions) tally

-- Nothing has changed except the pairs that positions keep.
pub record KeepsAll (old new : Tally) : Type 0 where
  pub reached : new.reached ≡ old.reached
  pub waiting : new.waiting ≡ old.waiting
  pub whole : length new.shown ≡ length old.shown
