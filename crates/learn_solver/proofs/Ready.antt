-- Steps of a descent.
use Rattle.std.proofs.Common.{◌≡◌, ℕ, ◌+◌, ◌<◌, ◌≤◌, List, [], ◌∷◌, ◌++◌, length, sym, subst}
use Rattle.std.specs.Prelude.{None, Contains, All}
use Rattle.clause_pool.specs.Literal.{Literal}
use Rattle.clause_pool.specs.Clauses.{Clause}
use Rattle.clause_pool.specs.Partial.{IsQuiet}
use Rattle.clause_pool.proofs.Numbered.{all_numbered, has_numbered, numbered_within}
use Rattle.solver_trail.specs.declared.trail.Propagated.{Propagated}
use Rattle.solver_trail.specs.declared.trail.Propagated.TheVariants.{Quiet, Conflict}
use Rattle.solver_trail.specs.Assignment.{IsTrail, Propagates, CutsAbove, assigned_literals}
use Rattle.solver_trail.specs.Trail.{TrailState, Fits, IsPropagated, attached_numbers}
use Rattle.learn_solver.specs.Descent.{IsFoundAt}
use Rattle.learn_solver.specs.Ready.{IsSolverReady}
use Rattle.learn_solver.proofs.Quiet.{quiet_decided, quiet_propagated, quiet_cut}

pub found_at : (trail : TrailState) (clauses : List Clause) (found : Propagated) → IsSolverReady trail clauses → IsPropagated trail clauses found → IsFoundAt trail clauses found
found_at trail clauses Quiet ready h = all_numbered (IsQuiet (assigned_literals trail.assignment)) clauses (λ number clause e. let b = numbered_within clauses number clause e in h number clause (ready.attached number b.0 b.1) e)
found_at trail clauses (Conflict number) ready h =
    let bounds = ready.fits.attached.numbered h.0.0 number h.0.1 in
    let same = h.0.2 in
    let clause = has_numbered clauses number (subst (λ n. 0 < n) same bounds.0) (subst (λ n. n ≤ length clauses) same bounds.1) in
    record {
      from = subst (λ n. 0 < n) same bounds.0;
      below = subst (λ n. n ≤ length clauses) same bounds.1;
      clause = clause.0;
      numbered = clause.1;
      false_clause = h.1 clause.0 clause.1;
    }

pub ready_propagated : (old new : TrailState) (clauses : List Clause) → IsSolverReady old clauses → Propagates old.assignment new.assignment → attached_numbers new ≡ attached_numbers old → Fits new clauses → IsTrail new.assignment → IsSolverReady new clauses
ready_propagated old new clauses ready p same fits trail = record {
  fits = fits;
  is_trail = trail;
  attached = λ number from below. subst (λ ns. Contains ns number) (sym same) (ready.attached number from below);
  quiet = quiet_propagated old.assignment new.assignment clauses p ready.quiet;
}

pub ready_decided : (old new : TrailState) (clauses : List Clause) (l : Literal) → IsSolverReady old clauses → All (IsQuiet (assigned_literals old.assignment)) clauses
    → new.assignment.literals ≡ old.assignment.literals ++ record { literal = l; level = old.assignment.level + 1; reason = None } ∷ [] → new.assignment.level ≡ old.assignment.level + 1
    → attached_numbers new ≡ attached_numbers old → Fits new clauses → IsTrail new.assignment → IsSolverReady new clauses
ready_decided old new clauses l ready now more level same fits trail = record {
  fits = fits;
  is_trail = trail;
  attached = λ number from below. subst (λ ns. Contains ns number) (sym same) (ready.attached number from below);
  quiet = quiet_decided old.assignment new.assignment clauses l ready.is_trail ready.quiet now more level;
}

pub ready_cut : (old new : TrailState) (clauses : List Clause) (level : ℕ) → level ≤ old.assignment.level → IsSolverReady old clauses → CutsAbove old.assignment new.assignment level → attached_numbers new ≡ attached_numbers old → Fits new clauses → IsTrail new.assignment
    → IsSolverReady new clauses
ready_cut old new clauses level le ready cuts same fits trail = record {
  fits = fits;
  is_trail = trail;
  attached = λ number from below. subst (λ ns. Contains ns number) (sym same) (ready.attached number from below);
  quiet = quiet_cut old.assignment new.assignment clauses level le cuts ready.quiet;
}
