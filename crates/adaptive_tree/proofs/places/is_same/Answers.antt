use Rattle.std.proofs.Common.{◌∙◌, sym}
use Rattle.text_fields.proofs.BitLemmas.{whole_bits}
use Rattle.adaptive_tree.proofs.PlaceLemmas.{bits_differ, bits_agree, not_other}
use Rattle.adaptive_tree.proofs.places.is_same.Goals as goal

pub returns-then-get-digits : goal.returns-then-get-digits
returns-then-get-digits c = sym (bits_differ c.args.bits.now c.args.digits.now c.loop-at.at c.loop-at-test.true (λ e. not_other c.get.result _ c.if-get-digits.true (c.get.ensures ∙ e)))

pub returns : goal.returns
returns c = sym (bits_agree c.args.bits.now c.args.digits.now (whole_bits c.args.digits.now c.loop-at.at c.args.bits.now c.loop-at.invariant c.loop-at-test.false))
