use Rattle.std.proofs.Common.{◌≡◌, ◌≤◌, length}
use Rattle.std.specs.Vec.{vec_capacity}
use Rattle.refute_check.proofs.AssignmentLemmas.{IsListed}
use Rattle.refute_check.proofs.assignment.Assignment.clear.Given as goal

abbrev pub invariant-loop-lit : goal.invariant-loop-lit
invariant-loop-lit l = record {
  listed : IsListed l.self.values.items l.self.trail.items;
  size : length l.self.values.items ≡ length l.fn.self.values.items;
  room : length l.fn.self.values.items ≤ vec_capacity l.self.trail;
}

abbrev pub decreases-loop-lit : goal.decreases-loop-lit
decreases-loop-lit l = goal.left-loop-lit l
