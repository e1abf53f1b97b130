use Rattle.std.proofs.Common.{ℕ, ◌≤◌}
use Rattle.std.proofs.lemmas.List.Sorted.{All-permutation}
use Rattle.learn_solver.proofs.queue.Queue.by_stamp.Goals as goal

pub returns : goal.returns
returns c = All-permutation (λ (p : ℕ × ℕ). p.1 ≤ c.args.self.now) c.loop-variable.order.items c.sort_unstable.new.self.items c.sort_unstable.ensures.permutation c.loop-variable.invariant
