use Rattle.std.proofs.Common.{◌+◌, sym, subst}
use Rattle.clause_pool.specs.Proper.{IsProper}
use Rattle.clause_pool.proofs.Numbered.{all_at_number}
use Rattle.solver_trail.specs.Assignment.{Assignment}
use Rattle.tests_evidence.proofs.tests.trails.attach_all.Goals as goal

pub attach-requires-clause-proper : goal.attach-requires-clause-proper
attach-requires-clause-proper c = λ clause e.
    subst (λ (a : Assignment). IsProper a.variables clause) (sym c.loop-before.invariant.same)
    (all_at_number (IsProper c.args.trail.now.assignment.variables) c.args.pool.now.clauses (c.loop-before.before + 1) clause c.requires.proper e)
