-- What a fault turns, lane by lane: a head, which is a line or what an observed position shows.
use Rattle.std.specs.Prelude.{◌≡◌, ℕ, ◌<◌, ◌≤◌, Bool, true, false, not, List, [], length, slice_index, slice_index_or, nat_lt, Option, None, Some, if◌then◌else◌}
use Rattle.net_model.specs.declared.fault.Site.TheVariants.{Stem, Pin, Position}
use Rattle.net_model.specs.declared.fault.Fault.{Fault}
use Rattle.net_model.specs.declared.fault.Fault.TheVariants.{Free, Stuck}
use Rattle.net_model.specs.Circuit.{Circuit, line_count}
use Rattle.net_model.specs.Answer.{bit_at, Agrees, IsAnswer}
use Rattle.word_sim.specs.declared.lanes.TheConstants.{LANES}
use Rattle.word_sim.specs.GoodSim.{GoodSim, vectors_of}
use Rattle.fault_heads.specs.declared.head.Head.{Head}
use Rattle.fault_heads.specs.declared.head.Head.TheVariants as head

-- ---- the lanes of a block

-- the vector of a lane in the block that was run last
abbrev pub vector_at : GoodSim → ℕ → List Bool
vector_at good lane = slice_index_or (vectors_of good) lane []

-- The lane has a vector, and these are the bits of all lines at it without a fault.
pub record IsFreeLane (good : GoodSim) (lane : ℕ) (free : List Bool) : Type 0 where
  pub within : lane < LANES
  pub live : lane < length (vectors_of good)
  pub agrees : Agrees good.circuit Free (vector_at good lane) free

-- The row is true exactly in the lanes that have a vector.
abbrev pub IsLive : GoodSim → List Bool → Type 0
IsLive good row = (lane : ℕ) → lane < LANES → bit_at row lane ≡ nat_lt lane (length (vectors_of good))

-- The row is false in the lanes that have no vector.
abbrev pub IsFalsePast : GoodSim → List Bool → Type 0
IsFalsePast good row = (lane : ℕ) → length (vectors_of good) ≤ lane → lane < LANES → bit_at row lane ≡ false

-- ---- heads

-- The head is a line or an observed position of the circuit.
abbrev pub IsHeadOf : Circuit → Head → Type 0
IsHeadOf c (head.Line line) = line < line_count c
IsHeadOf c (head.Position at) = at < length c.positions

-- the fault that turns a head at a vector, by the fault-free bits of the lines: the head is stuck at the opposite of
-- the bit that it has without a fault
abbrev pub turning : Circuit → List Bool → Head → Fault
turning c free (head.Line line) = Stuck (Stem line) (not (bit_at free line))
turning c free (head.Position at) = Stuck (Position at) (not (bit_at free (slice_index c.positions at)))

-- the fault that turns the head if the bit is true, else no fault
abbrev pub turned_if : Circuit → List Bool → Head → Bool → Fault
turned_if c free head true = turning c free head
turned_if c free head false = Free

-- whether two bits differ
abbrev pub bits_differ : Bool → Bool → Bool
bits_differ first second = if first then not second else second

-- what a fault turns at its own place: its stem, the line of its pin's gate, or its position
abbrev pub own_head : Fault → Option Head
own_head Free = None
own_head (Stuck (Stem line) bit) = Some (head.Line line)
own_head (Stuck (Pin gate pin) bit) = Some (head.Line gate)
own_head (Stuck (Position at) bit) = Some (head.Position at)

-- In each lane with a vector the fault answers as its head turned if the row is true there, and else as no fault.
abbrev pub TurnsHead : GoodSim → Fault → Head → List Bool → Type 0
TurnsHead good f head row = (lane : ℕ) (free answer : List Bool) → IsFreeLane good lane free
    → IsAnswer good.circuit f (vector_at good lane) answer → IsAnswer good.circuit (turned_if good.circuit free head (bit_at row lane)) (vector_at good lane) answer
