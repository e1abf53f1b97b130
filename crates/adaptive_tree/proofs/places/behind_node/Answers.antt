use Rattle.std.proofs.Common.{◌∙◌, ℕ, ◌+◌, drop, sym, ap, arith}
use Rattle.adaptive_tree.proofs.PlaceLemmas.{behind_nodes, one_behind, none_behind, one_node_behind, all_ended, drop_at, drop_past}
use Rattle.adaptive_tree.proofs.places.behind_node.Goals as goal

pub loop-left-preserved : goal.loop-left-preserved
loop-left-preserved c =
    let l = c.loop-left in
    record {
      after = omega (arith, l.invariant.after);
      within = omega (arith, c.if-at-steps.true);
      small = omega (arith, l.invariant.small, l.invariant.after, c.nodes_left-left.ensures.few);
      same =
          ap (λ (k : ℕ). behind_nodes k (drop (l.at + 1) c.args.steps.now)) c.nodes_left-left.ensures.left
          ∙ one_behind c.index-steps-at.result l.left (drop (l.at + 1) c.args.steps.now) c.loop-left-test.true
          ∙ ap (behind_nodes l.left) (sym (drop_at c.args.steps.now l.at c.index-steps-at.result c.if-at-steps.true c.index-steps-at.is))
          ∙ l.invariant.same;
    }

pub returns-else-at-steps : goal.returns-else-at-steps
returns-else-at-steps c = λ given.
    drop_past c.args.steps.now c.loop-left.at c.if-at-steps.false
    ∙ sym (none_behind c.loop-left.left) ∙ ap (behind_nodes c.loop-left.left) (sym (drop_past c.args.steps.now c.loop-left.at c.if-at-steps.false))
    ∙ c.loop-left.invariant.same ∙ one_node_behind (drop c.args.from c.args.steps.now) given

pub returns-after-loop-left : goal.returns-after-loop-left
returns-after-loop-left c = λ given.
    sym (all_ended c.loop-left.left (drop c.loop-left.at c.args.steps.now) (λ some. omega (arith, some, c.loop-left-test.false)))
    ∙ c.loop-left.invariant.same ∙ one_node_behind (drop c.args.from c.args.steps.now) given
