use Rattle.std.specs.Prelude.{◌≡◌, take}
use Rattle.ranked_diag.specs.PartialLines.{digits_seen}
use Rattle.ranked_diag.proofs.line.seen_of.Given as goal

abbrev pub invariant-loop-digit : goal.invariant-loop-digit
invariant-loop-digit l = l.seen.items ≡ digits_seen (take l.digit-index l.digits)
