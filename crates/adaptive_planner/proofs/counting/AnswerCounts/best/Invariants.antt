use Rattle.std.proofs.Common.{ℕ, ◌<◌, ◌≤◌, length}
use Rattle.adaptive_planner.specs.Counting.{pairs_parted}
use Rattle.adaptive_planner.proofs.counting.AnswerCounts.best.Given as goal

abbrev pub invariant-loop-pattern : goal.invariant-loop-pattern
invariant-loop-pattern l = record {
  within : l.best < length l.numbers.firsts.items;
  most : (other : ℕ) → other < l.pattern → pairs_parted l.numbers l.set other ≤ l.most;
  reached : l.most ≤ pairs_parted l.numbers l.set l.best;
  lowest : (other : ℕ) → other < l.best → pairs_parted l.numbers l.set other < l.most;
}
