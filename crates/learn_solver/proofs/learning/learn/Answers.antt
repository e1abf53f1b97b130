use Rattle.std.proofs.Common.{◌∙◌, ◌∷◌, ◌++◌, [], length, ap, inl, inr, sym, subst, arith}
use Rattle.std.proofs.lemmas.List.{length_push}
use Rattle.std.proofs.lemmas.Result.{on_ok_weaker}
use Rattle.clause_pool.specs.Clauses.{Clauses, numbered_clause}
use Rattle.clause_pool.specs.Proper.{IsProper}
use Rattle.clause_pool.proofs.Numbered.{begins_appended, numbered_last, same_clause}
use Rattle.pair_miter.specs.Adds.{Grows}
use Rattle.pair_miter.proofs.PlaceSteps.{grows_added, grows_none}
use Rattle.solver_trail.specs.Trail.{Fits}
use Rattle.learn_solver.proofs.LearnSteps.{ready_learned}
use Rattle.learn_solver.proofs.learning.learn.Goals as goal

pub attach-requires-clause-fits : goal.attach-requires-clause-fits
attach-requires-clause-fits c =
    let clauses = c.args.pool.now.clauses in
    let cut = c.back_to.new.self in
    subst (Fits cut) (sym c.in_ok-number.ensures.clauses)
    (c.longer_pool_fits.ensures cut (clauses ++ c.args.clause.now ∷ []) clauses (begins_appended clauses (c.args.clause.now ∷ [])) (c.back_to.ensures.fits clauses c.requires.ready.fits))

pub attach-requires-clause-proper : goal.attach-requires-clause-proper
attach-requires-clause-proper c = λ other is.
    let clauses = c.args.pool.now.clauses in
    let clause = c.args.clause.now in
    let added = c.in_ok-number.ensures.clauses in
    let there = ap (λ cs. numbered_clause cs c.in_ok-number.number) added ∙ numbered_last clauses clause c.in_ok-number.number (c.in_ok-number.ensures.number ∙ ap length added) in
    let same = same_clause c.add.new.self.clauses c.in_ok-number.number clause other there is in
    subst (IsProper c.back_to.new.self.assignment.variables) same
    (subst (λ n. IsProper n clause) (sym c.back_to.ensures.assignment.variables) c.requires.quiet.proper)

pub returns-clause-ready : goal.returns-clause-ready
returns-clause-ready c =
    let old = c.args.trail.now in
    let a = c.attach.ensures in
    on_ok_weaker c.attach.result
    (λ attached. ready_learned old c.back_to.new.self c.attach.new.self c.args.pool.now.clauses c.add.new.self.clauses c.args.clause.now c.args.back c.in_ok-number.number c.requires.ready c.requires.quiet
    c.in_ok-number.ensures.clauses c.in_ok-number.ensures.number c.back_to.ensures.assignment c.back_to.ensures.attached attached a.assignment a.fits a.trail)
    a.attached

pub attach-requires-clause-from : goal.attach-requires-clause-from
attach-requires-clause-from c = omega (arith, c.in_ok-number.ensures.number, ap length c.in_ok-number.ensures.clauses, length_push c.args.pool.now.clauses c.args.clause.now)

pub returns-clause-grows : goal.returns-clause-grows
returns-clause-grows c =
    let e = c.in_ok-number.ensures in
    grows_added c.args.pool.now c.add.new.self c.args.clause.now e.clauses e.spare_clauses e.spare_literals

pub returns-in_err-number-clause-grows : goal.returns-in_err-number-clause-grows
returns-in_err-number-clause-grows c = subst (Grows c.args.pool.now) (sym c.in_err-number.ensures.err) (grows_none c.args.pool.now)
