use Rattle.std.proofs.Common.{◌≤◌, ◌-◌, ℕ, length}
use Rattle.result_records.specs.Held.{IsFirstFrom, IsWithoutLineFeed}
use Rattle.compact_tests.proofs.lines.line_end.Given as goal

abbrev pub invariant-loop-end : goal.invariant-loop-end
invariant-loop-end l = record {
  behind : l.start ≤ l.end;
  before : IsWithoutLineFeed l.bytes l.start l.end;
  ahead : (first : ℕ) → IsFirstFrom l.bytes l.start first → l.end ≤ first;
}

abbrev pub decreases-loop-end : goal.decreases-loop-end
decreases-loop-end l = length l.bytes - l.end
