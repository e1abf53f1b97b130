use Rattle.result_records.specs.Held.{IsWithoutLineFeed}
use Rattle.result_records.proofs.lines.find_end.Given as goal

abbrev pub invariant-loop-at : goal.invariant-loop-at
invariant-loop-at l = IsWithoutLineFeed l.bytes l.from l.at
