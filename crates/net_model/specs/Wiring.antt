-- An order of the gates of a circuit, and who uses each line: the gates that read it, and the observed positions that show it.
use Rattle.std.specs.Prelude.{◌≡◌, ℕ, ◌+◌, ◌<◌, List, [], ◌∷◌, length, slice_index, slice_index_or, Contains}
use Rattle.net_model.specs.Circuit.{Circuit, IsCircuit, line_count, pins_of}
use Rattle.net_model.specs.FaultList.{destinations}
use Rattle.net_model.specs.Order.{IsOrder}

-- An order of the gates; for each line the places in that order of the gates that read it, and the observed positions
-- that show it.
pub record Wiring : Type 0 where
  pub order : List ℕ
  pub readers : List (List ℕ)
  pub showing : List (List ℕ)

abbrev pub wiring_with : List ℕ → List (List ℕ) → List (List ℕ) → Wiring
wiring_with order readers showing = record { order = order; readers = readers; showing = showing }

-- For each line `users` has exactly the numbers below `count` that use it.
pub record AreUsers (count : ℕ) (uses : ℕ → List ℕ) (users : List (List ℕ)) : Type 0 where
  pub all : (line number : ℕ) → number < count → Contains (uses number) line → Contains (slice_index_or users line []) number
  pub below : (line number : ℕ) → Contains (slice_index_or users line []) number → number < count
  pub only : (line number : ℕ) → Contains (slice_index_or users line []) number → Contains (uses number) line

-- the lines that the gate at a place of an order reads
abbrev pub reads_at : Circuit → List ℕ → ℕ → List ℕ
reads_at c order place = pins_of c (slice_index order place)

-- the line that a position shows
abbrev pub shows_at : Circuit → ℕ → List ℕ
shows_at c position = slice_index c.positions position ∷ []

-- The wiring belongs to the circuit. The readers of a line and the positions that show it are together as many as its
-- destinations.
pub record IsWiring (c : Circuit) (w : Wiring) : Type 0 where
  pub circuit : IsCircuit c
  pub order : IsOrder c w.order
  pub readers : AreUsers (length w.order) (reads_at c w.order) w.readers
  pub showing : AreUsers (length c.positions) (shows_at c) w.showing
  pub readers_whole : length w.readers ≡ line_count c
  pub showing_whole : length w.showing ≡ line_count c
  pub fanout : (line : ℕ) → line < line_count c → length (slice_index_or w.readers line []) + length (slice_index_or w.showing line []) ≡ length (destinations c line)
