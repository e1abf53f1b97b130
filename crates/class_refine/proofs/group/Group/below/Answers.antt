use Rattle.std.proofs.Common.{◌∙◌, ◌++◌, ◌∷◌, [], sym, ap, arith}
use Rattle.std.specs.List.{range_with_len}
use Rattle.net_model.proofs.Ranges.{range_more}
use Rattle.class_refine.proofs.group.Group.below.Goals as goal

pub loop-n-preserved : goal.loop-n-preserved
loop-n-preserved c = c.in_ok-push.ensures.items ∙ (ap (λ xs. xs ++ c.loop-n.n ∷ []) c.loop-n.invariant ∙ sym (range_more c.loop-n.n))

pub loop-n-init : goal.loop-n-init
loop-n-init c = c.in_ok-numbers.ensures.items

pub returns : goal.returns
returns c = c.loop-n.invariant ∙ ap (range_with_len 0) (omega (arith, c.loop-n-test.false, c.loop-n.auto.n-end))
