use Rattle.solver_trail.specs.Watches.{watched_literals}
use Rattle.std.proofs.Common.{sym, subst, arith}
use Rattle.solver_trail.specs.Trail.{TrailState, Fits}
use Rattle.solver_trail.proofs.Kept.{kept_steady, kept_weaker, steady_more}
use Rattle.solver_trail.proofs.trail.Trail.propagate.Goals as goal
use Rattle.solver_trail.proofs.trail.Trail.propagate.Goals.{After-propagate-found}

pub propagate-found-requires-clause-watches : goal.propagate-found-requires-clause-watches
propagate-found-requires-clause-watches c =
    let fits = subst (λ (t : TrailState). Fits t c.args.pool.now.clauses) (sym c.self.view_is) c.requires in
    record { in_pool = fits.attached; reasons = fits.reasons; watching = fits.watching; size = fits.size; codes = c.self.invariant.codes }

pub invariant_of-self : goal.invariant_of-self
invariant_of-self c =
    let e = c.propagate-found.ensures in
    let new = c.propagate-found.new.set in
    let steady = steady_more e.set c.self.inside.visited (c.is_steady-steady.ensures c.if-steady.true) in
    record {
      trail = e.trail;
      listed = e.listed;
      codes = e.watches.codes;
      kept = kept_steady new.literals new.level c.self.inside.visited c.propagate-found.new.place (watched_literals c.propagate-found.new.watches) e.trail.levels e.below steady e.kept;
      reached = e.below;
    }

pub invariant_of-self-else-steady : goal.invariant_of-self-else-steady
invariant_of-self-else-steady c =
    let e = c.propagate-found.ensures in
    let new = c.propagate-found.new.set in
    let visited = c.self.inside.visited in
    record {
      trail = e.trail;
      listed = e.listed;
      codes = e.watches.codes;
      kept = kept_weaker new.literals visited c.propagate-found.new.place visited visited (watched_literals c.propagate-found.new.watches) (omega arith) e.from e.kept;
      reached = omega (arith, e.from, e.below);
    }

fits_after : (c : After-propagate-found)
    → Fits (record { assignment = c.propagate-found.new.set; short = c.self.inside.attached.short.items; long = c.self.inside.attached.long.items; watched = watched_literals c.propagate-found.new.watches }) c.args.pool.now.clauses
fits_after c =
    let w = c.propagate-found.ensures.watches in
    let fits = subst (λ (t : TrailState). Fits t c.args.pool.now.clauses) (sym c.self.view_is) c.requires in
    record { attached = w.in_pool; reasons = w.reasons; short = fits.short; size = w.size; watching = w.watching }

pub returns-then-steady-clause-fits : goal.returns-then-steady-clause-fits
returns-then-steady-clause-fits c = fits_after (goal.at.returns-then-steady-clause-fits c).After-propagate-found

pub returns-else-steady-clause-fits : goal.returns-else-steady-clause-fits
returns-else-steady-clause-fits c = fits_after (goal.at.returns-else-steady-clause-fits c).After-propagate-found
