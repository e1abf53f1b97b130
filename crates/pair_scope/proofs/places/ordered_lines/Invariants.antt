use Rattle.std.proofs.Common.{◌≡◌, ◌+◌, ◌≤◌, length}
use Rattle.std.specs.Prelude.{vec_capacity}
use Rattle.std.specs.List.{range_with_len}
use Rattle.pair_scope.proofs.places.ordered_lines.Given as goal

abbrev pub invariant-loop-source : goal.invariant-loop-source
invariant-loop-source l = record {
  lines : l.lines.items ≡ range_with_len 0 l.source;
  room : l.sources + length l.order ≤ vec_capacity l.lines;
}
