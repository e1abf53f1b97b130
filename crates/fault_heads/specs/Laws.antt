-- Laws of heads: what a fault's answer is, by the fault-free bits of all lines at the vector.
use Rattle.std.specs.Prelude.{ℕ, ◌<◌, Bool, List, not, length, slice_index}
use Rattle.net_model.specs.declared.fault.Site.TheVariants.{Stem, Pin, Position}
use Rattle.net_model.specs.declared.fault.Fault.TheVariants.{Free, Stuck}
use Rattle.net_model.specs.Circuit.{Circuit, IsCircuit, line_count, pins_of}
use Rattle.net_model.specs.Answer.{bit_at, driven_bit, Agrees, IsAnswer}
use Rattle.fault_heads.specs.declared.head.Head.TheVariants as head
use Rattle.fault_heads.specs.Turned.{turning, turned_if, bits_differ}
use Rattle.fault_heads.specs.Ways.{IsOnlyDestination}

-- the value of a gate if one of its pins sees this bit, and the others what they see without a fault
abbrev pub value_with_pin : Circuit → List Bool → List Bool → ℕ → ℕ → Bool → Bool
value_with_pin c v free gate pin bit = driven_bit c (Stuck (Pin gate pin) bit) v free gate

-- A stem's fault answers as its line turned if the line has another bit, and else as no fault.
abbrev pub StemTurnsLine : Type 0
StemTurnsLine = (c : Circuit) (line : ℕ) (bit : Bool) (v free answer : List Bool) → IsCircuit c → line < line_count c → Agrees c Free v free
    → IsAnswer c (Stuck (Stem line) bit) v answer → IsAnswer c (turned_if c free (head.Line line) (bits_differ bit (bit_at free line))) v answer

-- A pin's fault answers as its gate's line turned if the gate gives another bit with the pin stuck, and else as no
-- fault.
abbrev pub PinTurnsGate : Type 0
PinTurnsGate = (c : Circuit) (gate pin : ℕ) (bit : Bool) (v free answer : List Bool) → IsCircuit c → pin < length (pins_of c gate) → Agrees c Free v free
    → IsAnswer c (Stuck (Pin gate pin) bit) v answer → IsAnswer c (turned_if c free (head.Line gate) (bits_differ (value_with_pin c v free gate pin bit) (bit_at free gate))) v answer

-- A position's fault answers as the position turned if its line has another bit, and else as no fault.
abbrev pub PositionTurnsItself : Type 0
PositionTurnsItself = (c : Circuit) (at : ℕ) (bit : Bool) (v free answer : List Bool) → IsCircuit c → at < length c.positions → Agrees c Free v free
    → IsAnswer c (Stuck (Position at) bit) v answer → IsAnswer c (turned_if c free (head.Position at) (bits_differ bit (bit_at free (slice_index c.positions at)))) v answer

-- If a line's only destination is a gate's pin, the line turned answers as no fault, unless the gate gives another bit
-- with the pin turned; then it answers as the gate's line turned.
abbrev pub LineTurnsGate : Type 0
LineTurnsGate = (c : Circuit) (line gate pin : ℕ) (v free answer : List Bool) → IsCircuit c → IsOnlyDestination c line gate pin → Agrees c Free v free
    → IsAnswer c (turning c free (head.Line line)) v answer → IsAnswer c (turned_if c free (head.Line gate) (bits_differ (value_with_pin c v free gate pin (not (bit_at free line))) (bit_at free gate))) v answer
