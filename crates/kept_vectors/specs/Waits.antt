-- Units that wait at the lanes at which they leave their classes.
use Rattle.std.specs.Prelude.{◌≡◌, ◌≤◌, ◌<◌, ◌⊎◌, ℕ, List, [], length, slice_index_or, Contains}
use Rattle.net_model.specs.ClassTable.{ClassTable, class_at, representative}
use Rattle.word_sim.specs.declared.lanes.TheConstants.{LANES}
use Rattle.word_sim.specs.GoodSim.{GoodSim}
use Rattle.kept_vectors.specs.Units.{IsUnit}
use Rattle.kept_vectors.specs.Notes.{AreAlikeAt}

module _ (good : GoodSim) (t : ClassTable) where
  -- The number answers in the lane as the representative of its class.
  abbrev pub IsLed : ℕ → ℕ → Type 0
  IsLed lane n = AreAlikeAt good lane n (representative t (class_at t n))

  -- At `lane` the number answers otherwise than the representative of its class, and at the lanes from `from` to before
  -- `lane` it answers as that does.
  pub record LeavesFirst (from lane n : ℕ) : Type 0 where
    pub number : n < length t.class_of
    pub differs : IsLed lane n → ⊥
    pub before : (earlier : ℕ) → from ≤ earlier → earlier < lane → IsLed earlier n

module _ (good : GoodSim) (roots : List ℕ) (t : ClassTable) where
  -- There is a list for each lane. Among the lanes starting at `from` and below `live`, a number waits only at the
  -- first one at which it leaves its class. Each unit waits there if there is such a lane, except those that are left
  -- to come, which may not wait yet.
  pub record AreWaiting (from live : ℕ) (lists : List (List ℕ)) (left : List ℕ) : Type 0 where
    pub count : length lists ≡ LANES
    pub right : (n lane : ℕ) → from ≤ lane → lane < live → Contains (slice_index_or lists lane []) n → LeavesFirst good t from lane n
    pub all : (n lane : ℕ) → IsUnit roots n → from ≤ lane → lane < live → LeavesFirst good t from lane n → Contains (slice_index_or lists lane []) n ⊎ Contains left n
