use Rattle.std.proofs.Common.{length, refl, sym, ap, subst, arith, length-append}
use Rattle.solver_trail.specs.Assignment.{assigned_literals}
use Rattle.solver_trail.specs.Trail.{AreAttached}
use Rattle.solver_trail.specs.Watches.{watched_literals, AreKept}
use Rattle.solver_trail.specs.Propagation.{AreSatisfied, HasWatches, numbers_attached}
use Rattle.solver_trail.proofs.Forced.{held_more, propagates_two}
use Rattle.solver_trail.proofs.Kept.{kept_more}
use Rattle.solver_trail.proofs.Quiet.{all_quiet}
use Rattle.solver_trail.proofs.propagation.propagate.Goals as goal
use Rattle.solver_trail.proofs.propagation.propagate.Goals.{After-follow, After-set_units}

-- the watches are of the clauses of the pool after the units are set, too
watches : (c : After-set_units) → HasWatches c.args.attached.now c.args.pool.now.clauses c.set_units.new.set c.args.watches.now
watches c =
    let w = c.requires.watches in
    let e = c.set_units.ensures in
    record {
      in_pool = subst (λ n. AreAttached n (numbers_attached c.args.attached.now) c.args.pool.now.clauses) (sym e.set.variables) w.in_pool;
      reasons = e.reasons;
      watching = w.watching;
      size = w.size;
      codes = omega (arith, w.codes, e.set.variables);
    }

pub set_units-requires-clause-attached : goal.set_units-requires-clause-attached
set_units-requires-clause-attached c = c.requires.watches.in_pool

pub follow-requires-clause-watches : goal.follow-requires-clause-watches
follow-requires-clause-watches c = watches (goal.at.follow-requires-clause-watches c).After-set_units

pub follow-requires-clause-place : goal.follow-requires-clause-place
follow-requires-clause-place c =
    let e = c.set_units.ensures in
    omega (arith, c.requires.place, ap length e.set.added, length-append c.args.set.now.literals e.set.more)

pub returns-in-Some-clause-watches : goal.returns-in-Some-clause-watches
returns-in-Some-clause-watches c = watches (goal.at.returns-in-Some-clause-watches c).After-set_units

pub returns-in-Some-clause-found : goal.returns-in-Some-clause-found
returns-in-Some-clause-found c = c.in-Some.ensures.conflict

pub returns-in-Some-follow-clause-found : goal.returns-in-Some-follow-clause-found
returns-in-Some-follow-clause-found c = c.in-Some-follow.ensures.conflict

pub returns-in-Some-clause-kept : goal.returns-in-Some-clause-kept
returns-in-Some-clause-kept c = kept_more c.set_units.ensures.set c.args.place.now c.args.place.now (watched_literals c.args.watches.now) c.requires.place c.requires.kept

-- what is kept after the units and their consequences are set
kept : (c : After-follow) → AreKept c.follow.new.set.literals c.args.place.now c.follow.new.place (watched_literals c.follow.new.watches)
kept c = c.follow.ensures.kept (kept_more c.set_units.ensures.set c.args.place.now c.args.place.now (watched_literals c.args.watches.now) c.requires.place c.requires.kept)

pub returns-in-Some-follow-clause-set : goal.returns-in-Some-follow-clause-set
returns-in-Some-follow-clause-set c = propagates_two c.set_units.ensures.set c.follow.ensures.set

pub returns-in-Some-follow-clause-kept : goal.returns-in-Some-follow-clause-kept
returns-in-Some-follow-clause-kept c = kept (goal.at.returns-in-Some-follow-clause-kept c).After-follow

pub returns-in-None-follow-clause-set : goal.returns-in-None-follow-clause-set
returns-in-None-follow-clause-set c = propagates_two c.set_units.ensures.set c.follow.ensures.set

pub returns-in-None-follow-clause-kept : goal.returns-in-None-follow-clause-kept
returns-in-None-follow-clause-kept c = kept (goal.at.returns-in-None-follow-clause-kept c).After-follow

pub returns-in-None-follow-clause-found : goal.returns-in-None-follow-clause-found
returns-in-None-follow-clause-found c =
    let a = c.follow.new.set in
    let short = c.args.attached.now.short.items in
    let w = c.follow.ensures.watches in
    let literals = (watched_literals c.follow.new.watches) in
    let units : AreSatisfied (assigned_literals a) short c.args.pool.now.clauses = λ number clause is_in e.
    let s = c.in-None.ensures.units refl number clause is_in e in
    record { literal = s.literal; inside = s.inside; is_held = held_more c.follow.ensures.set s.literal s.is_held } in
    let all = subst (λ n. AreKept a.literals c.args.place.now n literals) (c.in-None-follow.ensures.done refl) (kept (goal.at.returns-in-None-follow-clause-found c).After-follow) in
    all_quiet a short c.args.attached.now.long.items c.args.pool.now.clauses literals c.args.place.now units w.watching w.size all
