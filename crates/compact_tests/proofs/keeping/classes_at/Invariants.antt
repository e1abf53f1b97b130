use Rattle.std.proofs.Common.{◌≡◌, ◌≤◌, ◌-◌, List, length}
use Rattle.compact_tests.specs.Remaining.{Answered}
use Rattle.compact_tests.specs.Thinning.{IsAnswered, patterns_at}
use Rattle.compact_tests.specs.Keeping.{IsKeeping, IsKeptTo}
use Rattle.compact_tests.proofs.keeping.classes_at.Given as goal

abbrev pub invariant-loop-first : goal.invariant-loop-first
invariant-loop-first l = record {
  within : l.first ≤ length l.places;
  sources : l.block.sources ≡ l.circuit.sources;
  keeping : IsKeeping l.classes l.keeping;
  kept : (all : List Answered) → IsAnswered l.circuit l.patterns l.classes all → IsKeptTo l.classes (patterns_at all l.places) l.first l.keeping;
}

abbrev pub decreases-loop-first : goal.decreases-loop-first
decreases-loop-first l = length l.places - l.first
