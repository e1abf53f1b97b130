use Rattle.std.proofs.Common.{◌∙◌, ◌++◌, ◌∷◌, [], List, ℕ, ap, sym, arith}
use Rattle.std.specs.List.{range_with_len}
use Rattle.net_model.proofs.Ranges.{range_more}
use Rattle.answer_numbers.proofs.differences.numbers_below.Goals as goal

pub loop-number-init : goal.loop-number-init
loop-number-init c = c.in_ok-numbers.ensures.items

pub loop-number-preserved : goal.loop-number-preserved
loop-number-preserved c = c.in_ok-push.ensures.items ∙ (ap (λ (xs : List ℕ). xs ++ c.loop-number.number ∷ []) c.loop-number.invariant ∙ sym (range_more c.loop-number.number))

pub returns : goal.returns
returns c = c.loop-number.invariant ∙ ap (range_with_len 0) (omega arith)
