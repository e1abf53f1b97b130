use Rattle.std.proofs.Common.{◌∙◌, ◌+◌, [], ◌∷◌, ◌++◌, refl, sym, ap, arith}
use Rattle.std.specs.List.{range_with_len}
use Rattle.net_model.proofs.Orders.{range_with_len_more}
use Rattle.fault_collapse.proofs.roots.own_numbers.Goals as goal

pub loop-number-preserved : goal.loop-number-preserved
loop-number-preserved c =
    c.in_ok-push.ensures.items ∙ (ap (λ xs. xs ++ c.loop-number.number ∷ []) c.loop-number.invariant ∙ sym (range_with_len_more 0 (c.loop-number.number + 1) c.loop-number.number c.loop-number.number refl (omega arith)))

pub loop-number-init : goal.loop-number-init
loop-number-init c = c.in_ok-numbers.ensures.items

pub returns : goal.returns
returns c = c.loop-number.invariant ∙ ap (range_with_len 0) (omega (arith, c.loop-number-test.false, c.loop-number.auto.number-end))
