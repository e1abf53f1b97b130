use Rattle.std.proofs.Common.{◌≡◌, ◌-◌, length}
use Rattle.net_model.specs.Circuit.{line_count}
use Rattle.pair_scope.proofs.RelevantLemmas.{IsFoundSoFar}
use Rattle.pair_scope.proofs.relevant.find_relevant.Given as goal

abbrev pub invariant-loop-place : goal.invariant-loop-place
invariant-loop-place l = record {
  back_room : length l.back ≡ line_count l.places.circuit.now;
  found_room : length l.found ≡ line_count l.places.circuit.now;
  so_far : IsFoundSoFar l.places.circuit.now l.fn.reached l.places.places.items l.places.lines.items l.from l.back l.found;
}

abbrev pub decreases-loop-place : goal.decreases-loop-place
decreases-loop-place l = line_count l.places.circuit.now - l.from
