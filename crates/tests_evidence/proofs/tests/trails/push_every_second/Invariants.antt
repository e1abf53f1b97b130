use Rattle.std.specs.Prelude.{All}
use Rattle.clause_pool.specs.Proper.{IsProper}
use Rattle.tests_evidence.proofs.tests.trails.push_every_second.Given as goal

abbrev pub invariant-loop-turn : goal.invariant-loop-turn
invariant-loop-turn l = All (IsProper 500000) l.pool.clauses
