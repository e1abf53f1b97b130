use Rattle.std.proofs.Common.{◌<◌, ℕ, [], get_or, take, length}
use Rattle.std.specs.Prelude.{Contains, IsTrue}
use Rattle.net_model.specs.Answer.{bit_at}
use Rattle.word_sim.specs.declared.lanes.TheConstants.{LANES}
use Rattle.fault_sim.proofs.sim.FaultSim.any_difference.Given as goal

abbrev pub invariant-loop-position : goal.invariant-loop-position
invariant-loop-position l = record {
  some : (lane : ℕ) → lane < LANES → IsTrue (bit_at l.lanes lane) → (position : ℕ) × (position < length l.self.circuit.positions) × IsTrue (bit_at (get_or l.self.differences position []) lane);
  all : (lane position : ℕ) → lane < LANES → Contains (take l.position-index l.position-items) position → IsTrue (bit_at (get_or l.self.differences position []) lane) → IsTrue (bit_at l.lanes lane);
}
