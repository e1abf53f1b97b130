use Rattle.std.proofs.Common.{ℕ, ◌<◌, ◌≤◌}
use Rattle.learn_solver.specs.Ready.{IsSet}
use Rattle.learn_solver.proofs.decider.lowest_unset.Given as goal

abbrev pub invariant-loop-at : goal.invariant-loop-at
invariant-loop-at l = (x : ℕ) → 0 < x → x ≤ l.at → IsSet l.trail.assignment x
