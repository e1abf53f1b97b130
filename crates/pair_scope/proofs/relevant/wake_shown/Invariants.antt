use Rattle.std.proofs.Common.{◌≡◌, length, take}
use Rattle.net_model.specs.Circuit.{line_count}
use Rattle.pair_scope.specs.Places.{AreWokenBack, IsShownBy}
use Rattle.pair_scope.proofs.relevant.wake_shown.Given as goal

abbrev pub invariant-loop-at : goal.invariant-loop-at
invariant-loop-at l = record {
  room : length l.back ≡ length l.initial.back;
  woken : AreWokenBack (IsShownBy l.places.circuit.now (take l.at-index l.reached)) (line_count l.places.circuit.now) l.places.places.items l.initial.back l.back;
}
