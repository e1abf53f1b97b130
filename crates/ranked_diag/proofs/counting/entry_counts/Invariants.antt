use Rattle.std.specs.Prelude.{◌≡◌, take, map}
use Rattle.ranked_diag.specs.SeenWords.{seen_mismatches}
use Rattle.ranked_diag.proofs.counting.entry_counts.Given as goal

abbrev pub invariant-loop-row : goal.invariant-loop-row
invariant-loop-row l = l.counts.items ≡ map (seen_mismatches l.words) (take l.row l.entries)
