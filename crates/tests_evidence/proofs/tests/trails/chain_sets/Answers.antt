use Rattle.std.proofs.Common.{sym, subst}
use Rattle.std.specs.Prelude.{All}
use Rattle.clause_pool.specs.Proper.{IsProper}
use Rattle.tests_evidence.proofs.tests.trails.chain_sets.Goals as goal

pub attach_all-requires-clause-proper : goal.attach_all-requires-clause-proper
attach_all-requires-clause-proper c =
    subst (λ variables. All (IsProper variables) c.args.pool.now.clauses) (sym c.requires.variables) c.requires.proper
