use Rattle.std.proofs.Common.{◌≡◌, ◌≤◌, List, length}
use Rattle.net_model.specs.FaultList.{fault_count}
use Rattle.compact_tests.specs.Remaining.{Answered}
use Rattle.compact_tests.specs.Thinning.{IsAnswered, IsThinning, IsThinnedTo}
use Rattle.compact_tests.proofs.thinning.Thinning.pass_all.Given as goal

abbrev pub invariant-loop-end : goal.invariant-loop-end
invariant-loop-end l = record {
  within : l.end ≤ length l.vectors;
  sources : l.block.sources ≡ l.circuit.sources;
  classes : l.self.classes ≡ l.initial.self.classes;
  thinning : IsThinning l.checked.classes l.self;
  thinned : (all : List Answered) → IsAnswered l.circuit l.checked.patterns l.checked.classes all → IsThinnedTo (fault_count l.circuit) l.checked.classes all l.end l.self;
}

abbrev pub decreases-loop-end : goal.decreases-loop-end
decreases-loop-end l = l.end
