use Rattle.std.proofs.Common.{ℕ, ◌≤◌}
use Rattle.std.specs.Prelude.{All}
use Rattle.learn_solver.proofs.queue.Queue.by_stamp.Given as goal

abbrev pub invariant-loop-variable : goal.invariant-loop-variable
invariant-loop-variable l = All (λ (p : ℕ × ℕ). p.1 ≤ l.self) l.order.items
