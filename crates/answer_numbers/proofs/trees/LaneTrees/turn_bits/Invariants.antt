use Rattle.std.proofs.Common.{◌≡◌, ◌<◌, length}
use Rattle.std.specs.Prelude.{All}
use Rattle.answer_numbers.specs.Trees.{way_of, turned}
use Rattle.answer_numbers.proofs.trees.LaneTrees.turn_bits.Given as goal

abbrev pub invariant-loop-at : goal.invariant-loop-at
invariant-loop-at l = record {
  node : l.at < length l.self.nodes.items;
  within : All (λ position. position < length l.bits) (way_of l.self.lanes l.self.nodes.items l.at).positions;
  bits : turned (way_of l.self.lanes l.self.nodes.items l.at).positions l.bits ≡ turned (way_of l.self.lanes l.self.nodes.items l.node).positions l.initial.bits;
}

abbrev pub decreases-loop-at : goal.decreases-loop-at
decreases-loop-at l = l.at
