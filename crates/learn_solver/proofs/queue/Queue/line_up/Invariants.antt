use Rattle.std.proofs.Common.{◌≡◌}
use Rattle.learn_solver.specs.QueueFields.{IsRing}
use Rattle.learn_solver.proofs.queue.Queue.line_up.Given as goal

abbrev pub invariant-loop-variable : goal.invariant-loop-variable
invariant-loop-variable l = record {
  ring : IsRing l.self-inside.variables l.self-inside.older.items l.self-inside.newer.items l.self-inside.stamps.items;
  same : l.self-inside.variables ≡ l.fn.self;
}
