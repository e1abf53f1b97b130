use Rattle.std.proofs.Common.{◌≡◌, ◌≤◌, length, take}
use Rattle.std.specs.Prelude.{reverse}
use Rattle.adaptive_tree.specs.OpenWays.{node_ended}
use Rattle.adaptive_tree.proofs.open_ways.OpenWays.end_node.Given as goal

abbrev pub invariant-loop-count : goal.invariant-loop-count
invariant-loop-count l = record { within : l.count ≤ length l.self.left.items; same : node_ended (reverse (take l.count l.self.left.items)) ≡ node_ended (reverse l.self.left.items) }

abbrev pub decreases-loop-count : goal.decreases-loop-count
decreases-loop-count l = l.count
