use Rattle.clause_pool.specs.Clauses.{Clause}
use Rattle.evidence_rules.specs.LogRefusal.{EndsAs, chain_before}
use Rattle.refute_check.specs.Reached.{IsReached}
use Rattle.refute_check.proofs.chain.follow.Given as goal

abbrev pub invariant-loop-pivot : goal.invariant-loop-pivot
invariant-loop-pivot l = (clause : Clause) × EndsAs l.pool.clauses (chain_before l.pivot-index l.chain) clause × IsReached l.reached clause
