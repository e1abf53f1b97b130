-- Gates while they are being ordered, each after those that it reads.
use Rattle.std.specs.Prelude.{◌≡◌, ◌≢◌, ℕ, ◌+◌, ◌<◌, ◌≤◌, ◌⊎◌, Bool, true, false, not, List, [], ◌++◌, length, take, slice_index, slice_index_or, sum_by, Contains, Some, count_by, nat_lt, ◌==◌, ◌||◌, if◌then◌else◌}
use Rattle.std.specs.List.{list_all, list_any}
use Rattle.net_model.specs.declared.topological.Parts.{Parts}
use Rattle.net_model.specs.Circuit.{Circuit, circuit_with, line_count, pins_of, Feeds}
use Rattle.net_model.specs.LoopWalk.{is_left, visited}

-- the circuit of the parts
abbrev pub parts_circuit : Parts → Circuit
parts_circuit parts = circuit_with parts.sources parts.gates.items parts.positions.items

-- how often a number occurs in a list
abbrev pub count_of : ℕ → List ℕ → ℕ
count_of x xs = count_by (λ y. y == x) xs

-- ---- the users of each line

abbrev pub users_at : List (List ℕ) → ℕ → List ℕ
users_at users line = slice_index_or users line []

-- The user is added to each of these lines, as often as the line occurs among them.
pub record AddsUser (user : ℕ) (lines : List ℕ) (old new : List (List ℕ)) : Type 0 where
  pub whole : length new ≡ length old
  pub total : sum_by length new ≡ sum_by length old + length lines
  pub longer : (line : ℕ) → line < length old → length (users_at new line) ≡ length (users_at old line) + count_of line lines
  pub each : (line other : ℕ) → line < length old → count_of other (users_at new line) ≡ count_of other (users_at old line) + (if other == user then count_of line lines else 0)

-- how many pins of gates read a line
abbrev pub pins_reading : Circuit → ℕ → ℕ
pins_reading c line = sum_by (λ gate. count_of line gate.pins) c.gates

-- A line has each reader as often as the reader's gate reads it.
pub record AreReaders (c : Circuit) (readers : List (List ℕ)) : Type 0 where
  pub whole : length readers ≡ line_count c
  pub total : sum_by length readers ≡ sum_by (λ gate. length gate.pins) c.gates
  pub long : (line : ℕ) → line < line_count c → length (users_at readers line) ≡ pins_reading c line
  pub each : (line reader : ℕ) → line < line_count c → count_of reader (users_at readers line) ≡ count_of line (pins_of c reader)

-- ---- the queue of ready gates

-- whether a line is a source or is in `told`
abbrev pub is_told : ℕ → List ℕ → ℕ → Bool
is_told sources told line = nat_lt line sources || list_any (λ gate. gate == line) told

-- how many pins read neither a source nor a gate in `told`
abbrev pub open_pins : ℕ → List ℕ → List ℕ → ℕ
open_pins sources told pins = count_by (λ pin. not (is_told sources told pin)) pins

-- how many open pins the gate of a line has
abbrev pub waits_at : List ℕ → ℕ → ℕ
waits_at waits line = slice_index_or waits line 0

-- The gates in `order` have no open pins, and none occurs twice.
pub record AreReady (waits order : List ℕ) : Type 0 where
  pub closed : (line : ℕ) → Contains order line → waits_at waits line ≡ 0
  pub distinct : (j k : ℕ) → j < k → k < length order → slice_index order j ≢ slice_index order k

-- For each reader as many pins are closed as `readers` has it. `longer` is `order` with further readers at its end. It
-- has each reader without open pins, no gate with open pins, and none twice.
pub record IsTold (readers old waits order longer : List ℕ) : Type 0 where
  pub whole : length waits ≡ length old
  pub fewer : (line : ℕ) → waits_at waits line + count_of line readers ≡ waits_at old line
  pub more : List ℕ
  pub extends : longer ≡ order ++ more
  pub only : (line : ℕ) → Contains more line → Contains readers line
  pub all : (line : ℕ) → Contains readers line → waits_at waits line ≡ 0 → Contains longer line
  pub ready : AreReady waits longer

-- The gates without open pins are in `order`, each once and after the gates that it reads. `waits` counts the pins that
-- read neither a source nor a gate in `told`.
pub record IsQueue (c : Circuit) (told waits order : List ℕ) : Type 0 where
  pub whole : length waits ≡ line_count c
  pub counts : (line : ℕ) → line < line_count c → waits_at waits line ≡ open_pins c.sources told (pins_of c line)
  pub gates : (line : ℕ) → Contains order line → (c.sources ≤ line) × (line < line_count c)
  pub all : (line : ℕ) → c.sources ≤ line → line < line_count c → waits_at waits line ≡ 0 → Contains order line
  pub ready : AreReady waits order
  pub after : (at pin : ℕ) → at < length order → Feeds c pin (slice_index order at) → (pin < c.sources) ⊎ Contains (take at order) pin

-- ---- the gates that are left

-- whether a line has no open pins
abbrev pub is_placed : List ℕ → ℕ → Bool
is_placed waits line = waits_at waits line == 0

-- whether all of `lines` are placed
abbrev pub are_placed : List ℕ → List ℕ → Bool
are_placed waits lines = list_all (is_placed waits) lines

-- The lines that aren't placed are those that are left of the circuit, and each is a gate that reads such a line.
pub record IsRest (c : Circuit) (waits : List ℕ) : Type 0 where
  pub whole : length waits ≡ line_count c
  pub left : (line : ℕ) → line < line_count c → is_left c line ≡ not (is_placed waits line)
  pub sources : (line : ℕ) → line < c.sources → is_placed waits line ≡ true
  pub onward : (line : ℕ) → line < line_count c → is_placed waits line ≡ false → are_placed waits (pins_of c line) ≡ false

-- The first visits of the walk, no gate twice; the next visit is the gate at place `back` again.
pub record AreVisits (c : Circuit) (lines : List ℕ) (back : ℕ) : Type 0 where
  pub within : back < length lines
  pub visits : (k : ℕ) → k < length lines → visited c k ≡ Some (slice_index lines k)
  pub again : visited c (length lines) ≡ Some (slice_index lines back)
  pub distinct : (j k : ℕ) → j < k → k < length lines → slice_index lines j ≢ slice_index lines k
