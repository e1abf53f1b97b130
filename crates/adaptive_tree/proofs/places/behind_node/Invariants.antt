use Rattle.std.proofs.Common.{◌≡◌, ◌≤◌, length, drop, ◌+◌, ◌-◌, ◌*◌}
use Rattle.adaptive_tree.proofs.PlaceLemmas.{behind_nodes}
use Rattle.adaptive_tree.proofs.places.behind_node.Given as goal

abbrev pub invariant-loop-left : goal.invariant-loop-left
invariant-loop-left l = record { after : l.from ≤ l.at; within : l.at ≤ length l.steps; small : l.left ≤ 1 + (l.at - l.from) * 4294967296; same : behind_nodes l.left (drop l.at l.steps) ≡ behind_nodes 1 (drop l.from l.steps) }

abbrev pub decreases-loop-left : goal.decreases-loop-left
decreases-loop-left l = length l.steps - l.at
