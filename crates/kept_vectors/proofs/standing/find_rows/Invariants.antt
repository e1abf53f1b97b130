use Rattle.std.proofs.Common.{drop}
use Rattle.std.specs.Prelude.{Contains}
use Rattle.kept_vectors.specs.Standing.{AreRowsBut}
use Rattle.kept_vectors.proofs.standing.find_rows.Given as goal

abbrev pub invariant-loop-number : goal.invariant-loop-number
invariant-loop-number l = AreRowsBut l.good l.differences.units.roots.now l.classes l.differences.numbers.items (Contains (drop l.number-index l.differences.numbers.items)) l.rows
