use Rattle.std.proofs.Common.{◌∙◌, ap, sym}
use Rattle.std.specs.Prelude.{cond, ◌==◌}
use Rattle.net_model.specs.Rows.{bit_of}
use Rattle.net_model.proofs.SingleWords.{bit-set, bit-cleared}
use Rattle.net_model.proofs.words.with_bit.Goals as goal

pub returns-then-bit : goal.returns-then-bit
returns-then-bit c k h = bit-set c.args.word c.args.at c.requires k h ∙ ap (λ b. cond (k == c.args.at) b (bit_of c.args.word k)) (sym c.if-bit.true)

pub returns-else-bit : goal.returns-else-bit
returns-else-bit c k h = bit-cleared c.args.word c.args.at c.requires c.ranges.word.fits k h ∙ ap (λ b. cond (k == c.args.at) b (bit_of c.args.word k)) (sym c.if-bit.false)
