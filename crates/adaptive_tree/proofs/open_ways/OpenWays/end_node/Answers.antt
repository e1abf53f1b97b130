use Rattle.std.proofs.Common.{arith}
use Rattle.adaptive_tree.proofs.OpenWaysLemmas.{end_less}
use Rattle.adaptive_tree.proofs.open_ways.OpenWays.end_node.Goals.{then-loop-count-test+else-index-le1, else-loop-count-test}
use Rattle.adaptive_tree.proofs.open_ways.OpenWays.end_node.Goals as goal

pub returns-then-count-gt0-clause-left : goal.returns-then-count-gt0-clause-left
returns-then-count-gt0-clause-left c = elim c.loop-count-test.branch [
  | then-loop-count-test+else-index-le1 w ↦
      end_less c.args.self.now.left.items c.truncate.new.self.items c.loop-count.count w.index.result.now c.index_mut.result.now c.loop-count.invariant.within c.if-count-gt0.true c.truncate.ensures.items w.if-index-le1.false w.index.ensures
      c.index_mut.ensures.value c.loop-count.invariant.same
  | else-loop-count-test w ↦ absurd (omega (arith, w.loop-count-test.false, c.if-count-gt0.true))
]
