use Rattle.std.proofs.Common.{◌≡◌, length, take}
use Rattle.net_model.proofs.ReachedPositions.{AreShown}
use Rattle.event_queue.specs.Pending.{is_pending}
use Rattle.pair_scope.proofs.reached.wake_reached.Given as goal

abbrev pub invariant-loop-line : goal.invariant-loop-line
invariant-loop-line l = record {
  room : length l.positions ≡ length l.initial.positions;
  shown : AreShown l.places.circuit.now l.fn.f l.fn.g (take l.line-index l.split) (is_pending l.positions);
}
