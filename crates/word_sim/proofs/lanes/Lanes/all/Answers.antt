use Rattle.std.proofs.Common.{◌%◌, ◌∙◌, sym, ap, arith}
use Rattle.net_model.specs.Rows.{bit_of}
use Rattle.net_model.proofs.SingleWords.{digit_zero, digit_ones}
use Rattle.word_sim.proofs.Digits.{splat_words, splat_lane}
use Rattle.word_sim.proofs.lanes.Lanes.all.Goals as goal
use Rattle.word_sim.proofs.lanes.Lanes.all.Goals.{then-bit, else-bit}

pub invariant_of-result : goal.invariant_of-result
invariant_of-result c = splat_words c.if-bit.result (elim c.if-bit.branch [
  | then-bit w ↦ omega (arith, w.result-is)
  | else-bit w ↦ omega (arith, w.result-is)
])

pub returns : goal.returns
returns c = λ lane h. splat_lane c.if-bit.result lane h ∙ elim c.if-bit.branch [
  | then-bit w ↦ ap (λ word. bit_of word (lane % 64)) w.result-is ∙ digit_ones 64 (lane % 64) (omega arith) ∙ sym w.if-bit.true
  | else-bit w ↦ ap (λ word. bit_of word (lane % 64)) w.result-is ∙ digit_zero (lane % 64) ∙ sym w.if-bit.false
]
