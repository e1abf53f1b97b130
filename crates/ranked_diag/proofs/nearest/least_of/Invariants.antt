use Rattle.std.specs.Prelude.{◌≡◌, min, take, slice_index}
use Rattle.std.specs.List.{fold}
use Rattle.ranked_diag.proofs.nearest.least_of.Given as goal

abbrev pub invariant-loop-count : goal.invariant-loop-count
invariant-loop-count l = l.lowest ≡ fold min (slice_index l.counts 0) (take l.count-index l.counts)
