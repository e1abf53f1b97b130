use Rattle.std.proofs.Common.{◌∙◌, sym, subst}
use Rattle.std.specs.Prelude.{All}
use Rattle.clause_pool.specs.Proper.{IsProper}
use Rattle.solver_trail.specs.Assignment.{assigned_literals}
use Rattle.learn_solver.specs.Search.{miter_clauses}
use Rattle.learn_solver.proofs.Attaching.{all_satisfied, model_of}
use Rattle.learn_solver.proofs.solver.vector.Goals as goal

pub vector_of-requires-clause-satisfies : goal.vector_of-requires-clause-satisfies
vector_of-requires-clause-satisfies c =
    let a = c.args.trail.now.assignment in
    let clauses = miter_clauses c.args.miter.now in
    let proper = subst (λ n. All (IsProper n) clauses) (c.variables.ensures.value ∙ sym c.requires.variables) c.variables.ensures.proper in
    model_of (assigned_literals a) c.in_ok-bits.bits clauses c.in_ok-bits.ensures.held (all_satisfied a c.requires.trail c.requires.whole clauses proper c.requires.quiet)
