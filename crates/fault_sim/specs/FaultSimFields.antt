-- What is true of the fields of a `FaultSim`.
use Rattle.std.specs.Prelude.{◌≡◌, ◌<◌, ◌≤◌, [], length, All, AllPairs, slice_index_or}
use Rattle.net_model.specs.Circuit.{IsCircuit, line_count}
use Rattle.event_queue.specs.Pending.{IsEmpty}
use Rattle.fault_sim.specs.declared.sim.FaultSim.TheInside.{Inside}
use Rattle.fault_sim.specs.Rows.{IsTrueSomewhere}

pub record AreFaultSimFields (a : Inside) : Type 0 where
  pub circuit : IsCircuit a.circuit.now
  pub none_waits : IsEmpty a.queue
  pub none_marked : IsEmpty a.marks
  pub queue_room : length a.circuit.now.gates ≤ length a.queue
  pub marks_room : length a.circuit.now.positions ≤ length a.marks
  pub lines_whole : length a.lines.rows ≡ line_count a.circuit.now
  pub lines_room : length a.circuit.now.gates < a.lines.room
  pub positions_whole : length a.positions.rows ≡ length a.circuit.now.positions
  pub positions_room : length a.circuit.now.positions ≤ a.positions.room
  pub positions_some : All (λ at. IsTrueSomewhere (slice_index_or a.positions.rows at [])) a.positions.listed
  pub positions_ascending : AllPairs ◌<◌ a.positions.listed
