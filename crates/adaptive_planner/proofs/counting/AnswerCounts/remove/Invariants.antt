use Rattle.std.proofs.Common.{◌≤◌, [], ◌∷◌, ◌++◌, take, length}
use Rattle.adaptive_planner.specs.Counting.{AreCountsFor, set_lists}
use Rattle.adaptive_planner.proofs.counting.AnswerCounts.remove.Given as goal

abbrev pub invariant-loop-end : goal.invariant-loop-end
invariant-loop-end l = record {
  within : l.end ≤ length l.own;
  counted : AreCountsFor l.numbers (set_lists l.numbers (take l.at l.set) ++ take l.end l.own ∷ []) l.self;
}

abbrev pub decreases-loop-end : goal.decreases-loop-end
decreases-loop-end l = l.end
