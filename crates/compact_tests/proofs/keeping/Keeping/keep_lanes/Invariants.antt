use Rattle.std.proofs.Common.{◌≡◌, ◌+◌, ℕ, List}
use Rattle.compact_tests.specs.Remaining.{Answered}
use Rattle.compact_tests.specs.Mixed.{ListsMixed}
use Rattle.compact_tests.specs.Thinning.{AreLanesNumbered}
use Rattle.compact_tests.specs.Keeping.{IsKeeping, IsKeptTo, AreNeededOf}
use Rattle.compact_tests.proofs.keeping.Keeping.keep_lanes.Given as goal

abbrev pub invariant-loop-lane : goal.invariant-loop-lane
invariant-loop-lane l = record {
  classes : l.self.classes ≡ l.initial.self.classes;
  keeping : IsKeeping l.initial.self.classes.now l.self;
  listed : ListsMixed l.initial.self.classes.now l.self.kept l.listed;
  kept : (kept : List Answered) (first : ℕ) → AreNeededOf l.initial.self.classes.now kept → AreLanesNumbered l.numbers l.listed l.initial.self.classes.now kept first l.count
      → IsKeptTo l.initial.self.classes.now kept first l.initial.self → IsKeptTo l.initial.self.classes.now kept (first + l.lane) l.self;
}
