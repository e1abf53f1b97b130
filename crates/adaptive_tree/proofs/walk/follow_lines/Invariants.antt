use Rattle.std.proofs.Common.{length}
use Rattle.adaptive_tree.specs.PlanNode.{HasNode}
use Rattle.adaptive_tree.proofs.WalkLemmas.{IsWalkSoFar}
use Rattle.adaptive_tree.proofs.walk.follow_lines.Given as goal

abbrev pub invariant-loop-rest : goal.invariant-loop-rest
invariant-loop-rest l = (root : HasNode l.plan) → IsWalkSoFar l.plan root.node l.log l.place l.number l.rest

abbrev pub decreases-loop-rest : goal.decreases-loop-rest
decreases-loop-rest l = length l.rest
