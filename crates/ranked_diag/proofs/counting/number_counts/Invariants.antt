use Rattle.std.specs.Prelude.{◌≡◌, take, map, slice_index}
use Rattle.ranked_diag.proofs.counting.number_counts.Given as goal

abbrev pub invariant-loop-group : goal.invariant-loop-group
invariant-loop-group l = l.numbered ≡ map (slice_index l.counts) (take l.group-index l.groups)
