use Rattle.std.proofs.Common.{◌≡◌, ◌∙◌, [], ◌∷◌, ◌++◌, Some, length, ap, subst}
use Rattle.clause_pool.specs.Clauses.{numbered_clause}
use Rattle.clause_pool.specs.Proper.{IsProper}
use Rattle.clause_pool.proofs.Numbered.{begins_appended, numbered_last, same_clause}
use Rattle.tests_evidence.proofs.tests.trails.add.Goals as goal

pub attach-requires-clause-fits : goal.attach-requires-clause-fits
attach-requires-clause-fits c = rw c.in_ok-number.ensures.clauses (c.longer_pool_fits.ensures c.args.trail.now (c.args.pool.now.clauses ++ c.args.clause.now ∷ []) c.args.pool.now.clauses (begins_appended c.args.pool.now.clauses (c.args.clause.now ∷ [])) c.requires.fits)

pub attach-requires-clause-proper : goal.attach-requires-clause-proper
attach-requires-clause-proper c = λ clause e.
    let clauses = c.args.pool.now.clauses in
    let new = c.push.new.self.clauses in
    let last : numbered_clause new c.in_ok-number.number ≡ Some c.args.clause.now =
    ap (λ cs. numbered_clause cs c.in_ok-number.number) c.in_ok-number.ensures.clauses ∙ numbered_last clauses c.args.clause.now c.in_ok-number.number (c.in_ok-number.ensures.number ∙ ap length c.in_ok-number.ensures.clauses) in
    subst (IsProper c.args.trail.now.assignment.variables) (same_clause new c.in_ok-number.number c.args.clause.now clause last e) c.requires.proper
