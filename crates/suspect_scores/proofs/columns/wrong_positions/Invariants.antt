use Rattle.suspect_scores.specs.Columns.{AreWrongPositions}
use Rattle.suspect_scores.proofs.columns.wrong_positions.Given as goal

abbrev pub invariant-loop-position : goal.invariant-loop-position
invariant-loop-position l = AreWrongPositions l.wrong l.position l.listed.items
