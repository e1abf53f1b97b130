use Rattle.std.specs.Prelude.{◌≡◌, true, take}
use Rattle.std.specs.List.{list_all}
use Rattle.ranked_diag.specs.Seen.{is_seen}
use Rattle.ranked_diag.proofs.observing.are_seen.Given as goal

abbrev pub invariant-loop-one : goal.invariant-loop-one
invariant-loop-one l = list_all is_seen (take l.one-index l.seen) ≡ true
