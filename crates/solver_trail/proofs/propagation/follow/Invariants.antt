use Rattle.std.proofs.Common.{[], ◌-◌, ◌≤◌, length}
use Rattle.solver_trail.specs.Assignment.{IsTrail, Propagates}
use Rattle.solver_trail.specs.Watches.{watched_literals, AreInLists, AreKept}
use Rattle.solver_trail.specs.Propagation.{HasWatches}
use Rattle.solver_trail.proofs.propagation.follow.Given as goal

abbrev pub invariant-loop-place : goal.invariant-loop-place
invariant-loop-place l = record {
  step : Propagates l.initial.set l.set;
  trail : IsTrail l.set;
  watches : HasWatches l.attached l.pool.clauses l.set l.watches;
  listed : AreInLists l.watches [];
  above : l.initial.place ≤ l.place;
  below : l.place ≤ length l.set.literals;
  kept : AreKept l.initial.set.literals l.initial.place l.initial.place (watched_literals l.initial.watches)
      → AreKept l.set.literals l.initial.place l.place (watched_literals l.watches);
}

abbrev pub decreases-loop-place : goal.decreases-loop-place
decreases-loop-place l = l.set.variables - l.place
