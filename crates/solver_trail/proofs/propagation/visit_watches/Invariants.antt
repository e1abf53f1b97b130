use Rattle.std.proofs.Common.{◌≡◌, ◌+◌, ◌≤◌, ℕ, length}
use Rattle.solver_trail.specs.Assignment.{IsTrail, Propagates}
use Rattle.solver_trail.specs.Watches.{watched_literals, AreKept}
use Rattle.solver_trail.specs.Propagation.{IsWatchWalk}
use Rattle.solver_trail.proofs.propagation.visit_watches.Given as goal

abbrev pub invariant-loop : goal.invariant-loop
invariant-loop l = record {
  walk : IsWatchWalk l.attached l.pool.clauses l.lit l.set l.watches l.last;
  few : length walk.ahead.rest + l.counter ≤ length (watched_literals l.initial.watches);
  size : length (watched_literals l.watches) ≡ length (watched_literals l.initial.watches);
  step : Propagates l.initial.set l.set;
  trail : IsTrail l.set;
  kept : (visited reached : ℕ) → reached ≤ length l.initial.set.literals
      → AreKept l.initial.set.literals visited reached (watched_literals l.initial.watches)
      → AreKept l.set.literals visited reached (watched_literals l.watches);
}
