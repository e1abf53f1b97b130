use Rattle.std.proofs.Common.{◌≤◌, ◌-◌, length, take}
use Rattle.net_model.specs.Topological.{parts_circuit, IsQueue}
use Rattle.net_model.proofs.topological.sorted.Given as goal

abbrev pub invariant-loop-head : goal.invariant-loop-head
invariant-loop-head l = record {
  within : l.head ≤ length l.queue.order.items;
  queue : IsQueue (parts_circuit l.parts) (take l.head l.queue.order.items) l.queue.waits.items l.queue.order.items;
}

abbrev pub decreases-loop-head : goal.decreases-loop-head
decreases-loop-head l = length l.parts.gates.items - l.head
