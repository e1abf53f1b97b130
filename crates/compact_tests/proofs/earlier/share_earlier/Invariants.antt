use Rattle.std.proofs.Common.{◌≢◌, ◌<◌, ℕ, get_or}
use Rattle.net_model.specs.ClassTable.{class_at}
use Rattle.compact_tests.specs.Earlier.{NoneIsMarked, ShareEarlier}
use Rattle.compact_tests.proofs.earlier.share_earlier.Given as goal

abbrev pub invariant-loop-group : goal.invariant-loop-group
invariant-loop-group l = record {
  unmarked : NoneIsMarked l.marks;
  none : (s : ShareEarlier l.groups l.earlier) (k : ℕ) → k < l.group-index → get_or l.shared k 0 ≢ class_at l.groups s.first;
}
