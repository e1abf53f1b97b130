use Rattle.std.proofs.Common.{◌≡◌, length, take}
use Rattle.std.specs.Prelude.{Contains}
use Rattle.net_model.specs.Circuit.{line_count}
use Rattle.pair_scope.specs.Places.{AreWokenBack}
use Rattle.pair_scope.proofs.places.LinePlaces.wake_back.Given as goal

abbrev pub invariant-loop-line : goal.invariant-loop-line
invariant-loop-line l = record {
  room : length l.queue ≡ length l.initial.queue;
  woken : AreWokenBack (Contains (take l.line-index l.lines)) (line_count l.self.circuit.now) l.self.places.items l.initial.queue l.queue;
}
