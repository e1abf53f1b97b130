use Rattle.std.proofs.Common.{◌≡◌, ◌≤◌, ◌-◌, length}
use Rattle.std.specs.Prelude.{vec_capacity}
use Rattle.net_model.specs.Circuit.{line_count}
use Rattle.pair_scope.proofs.SplitLemmas.{IsSplitSoFar}
use Rattle.pair_scope.proofs.split.list_split.Given as goal

abbrev pub invariant-loop-place : goal.invariant-loop-place
invariant-loop-place l = record {
  queue_room : length l.queue ≡ line_count l.places.circuit.now;
  whole : length l.split.marks.items ≡ line_count l.places.circuit.now;
  room : line_count l.places.circuit.now ≤ vec_capacity l.split.numbers;
  so_far : IsSplitSoFar l.places.circuit.now l.fn.f l.fn.g l.places.lines.items l.places.places.items l.from l.queue l.split.marks.items l.split.numbers.items;
}

abbrev pub decreases-loop-place : goal.decreases-loop-place
decreases-loop-place l = line_count l.places.circuit.now - l.from
