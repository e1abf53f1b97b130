-- Ways of lines. If a line's only destination is a pin of a gate, no position shows the line, and turning it turns the
-- gate's line or changes no answer. The way goes on so, from gate to gate, to its end.
use Rattle.std.specs.Prelude.{◌≡◌, ℕ, Bool, List, length, slice_get, Some, ⊤}
use Rattle.net_model.specs.Circuit.{Circuit, line_count, pins_of}
use Rattle.net_model.specs.Answer.{bit_at, IsAnswer}
use Rattle.word_sim.specs.GoodSim.{GoodSim}
use Rattle.fault_heads.specs.declared.head.Head.{Head}
use Rattle.fault_heads.specs.declared.head.Head.TheVariants as head
use Rattle.fault_heads.specs.declared.head.Turn.{Turn}
use Rattle.fault_heads.specs.Turned.{vector_at, IsFreeLane, IsFalsePast, IsHeadOf, turning, turned_if}

-- The pin of the gate reads the line, no other pin does, and no position shows it.
pub record IsOnlyDestination (c : Circuit) (line gate pin : ℕ) : Type 0 where
  pub reads : slice_get (pins_of c gate) pin ≡ Some line
  pub others : (other at : ℕ) → slice_get (pins_of c other) at ≡ Some line → (other ≡ gate) × (at ≡ pin)
  pub unshown : (at : ℕ) → slice_get c.positions at ≡ Some line → ⊥

-- The head is a position, or a line that a position shows or that no pin or several pins read.
abbrev pub IsWayEnd : Circuit → Head → Type 0
IsWayEnd c (head.Line line) = (gate pin : ℕ) → IsOnlyDestination c line gate pin → ⊥
IsWayEnd c (head.Position at) = ⊤

-- The head of `way` is a head of the circuit at which a way ends. In each lane with a vector the turned line answers as
-- this head turned if `way` has the lane, and else as no fault; `way` has no lane without a vector.
pub record IsWay (good : GoodSim) (line : ℕ) (way : Turn) : Type 0 where
  pub inside : IsHeadOf good.circuit way.head
  pub end : IsWayEnd good.circuit way.head
  pub turns : (lane : ℕ) (free answer : List Bool) → IsFreeLane good lane free
      → IsAnswer good.circuit (turning good.circuit free (head.Line line)) (vector_at good lane) answer → IsAnswer good.circuit (turned_if good.circuit free way.head (bit_at way.lanes lane)) (vector_at good lane) answer
  pub past : IsFalsePast good way.lanes

-- a circuit, and for each line the head at the end of its way and in which lanes turning the line turns it
pub record Heads : Type 0 where
  pub circuit : Circuit
  pub ways : List Turn

-- The ways are those of all lines at the vectors of the block that was run last.
pub record AreWays (good : GoodSim) (ways : List Turn) : Type 0 where
  pub whole : length ways ≡ line_count good.circuit
  pub each : (line : ℕ) (way : Turn) → slice_get ways line ≡ Some way → IsWay good line way
