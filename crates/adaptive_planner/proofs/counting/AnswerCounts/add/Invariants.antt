use Rattle.std.proofs.Common.{[], ◌∷◌, ◌++◌, take}
use Rattle.adaptive_planner.specs.Counting.{AreCountsFor, set_lists}
use Rattle.adaptive_planner.proofs.counting.AnswerCounts.add.Given as goal

abbrev pub invariant-loop-number : goal.invariant-loop-number
invariant-loop-number l = AreCountsFor l.numbers (set_lists l.numbers (take l.at l.set) ++ take l.number-index l.own ∷ []) l.self
