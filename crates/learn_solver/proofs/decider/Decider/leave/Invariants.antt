use Rattle.std.proofs.Common.{◌≡◌, ◌≤◌, length}
use Rattle.learn_solver.proofs.decider.Decider.leave.Given as goal

abbrev pub invariant-loop-place : goal.invariant-loop-place
invariant-loop-place l = (l.self ≡ l.initial.self) × (l.place ≤ length l.trail.assignment.literals)

abbrev pub decreases-loop-place : goal.decreases-loop-place
decreases-loop-place l = l.place
