use Rattle.std.specs.Prelude.{◌≡◌, map, take}
use Rattle.suspect_scores.specs.Scored.{suspect_begun}
use Rattle.suspect_scores.proofs.suspecting.begun.Given as goal

abbrev pub invariant-loop-number : goal.invariant-loop-number
invariant-loop-number l = l.scores.items ≡ map suspect_begun (take l.number-index l.numbers)
