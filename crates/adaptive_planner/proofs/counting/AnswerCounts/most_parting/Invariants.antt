use Rattle.std.proofs.Common.{◌≤◌, take, length}
use Rattle.adaptive_planner.specs.Counting.{AreCountsOf}
use Rattle.adaptive_planner.proofs.counting.AnswerCounts.most_parting.Given as goal

abbrev pub invariant-loop-at : goal.invariant-loop-at
invariant-loop-at l = AreCountsOf l.numbers (take l.at l.set) l.self

abbrev pub invariant-loop-end : goal.invariant-loop-end
invariant-loop-end l = record {
  within : l.end ≤ length l.set;
  counted : AreCountsOf l.numbers (take l.end l.set) l.self;
}

abbrev pub decreases-loop-end : goal.decreases-loop-end
decreases-loop-end l = l.end
