use Rattle.std.proofs.Common.{◌≡◌, ◌≤◌, ◌+◌, ℕ, List}
use Rattle.compact_tests.specs.Remaining.{Answered}
use Rattle.compact_tests.specs.Sharing.{ListsSharing}
use Rattle.compact_tests.specs.Thinning.{IsThinning, IsThinnedTo, IsTableOfAll, AreLanesNumbered}
use Rattle.compact_tests.proofs.thinning.Thinning.pass_lanes.Given as goal

abbrev pub invariant-loop-lane : goal.invariant-loop-lane
invariant-loop-lane l = record {
  within : l.lane ≤ l.count;
  classes : l.self.classes ≡ l.initial.self.classes;
  thinning : IsThinning l.initial.self.classes.now l.self;
  listed : ListsSharing l.self.groups l.listed;
  passed : (n : ℕ) (all : List Answered) → IsTableOfAll n l.initial.self.classes.now all → AreLanesNumbered l.numbers l.listed l.initial.self.classes.now all l.first l.count
      → IsThinnedTo n l.initial.self.classes.now all (l.first + l.count) l.initial.self → IsThinnedTo n l.initial.self.classes.now all (l.first + l.lane) l.self;
}

abbrev pub decreases-loop-lane : goal.decreases-loop-lane
decreases-loop-lane l = l.lane
