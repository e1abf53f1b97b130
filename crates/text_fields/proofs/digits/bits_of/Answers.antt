use Rattle.std.proofs.Common.{◌+◌, refl, sym, subst, arith}
use Rattle.text_fields.proofs.BitLemmas.{AreBitsSoFar, bits_none, bits_more, whole_bits}
use Rattle.text_fields.proofs.digits.bits_of.Goals as goal

pub loop-at-init : goal.loop-at-init
loop-at-init c = bits_none c.args.digits.now c.in_ok-bits.bits c.in_ok-bits.ensures

pub set-requires : goal.set-requires
set-requires c = omega (arith, c.loop-at.invariant.size, c.loop-at-test.true)

pub loop-at-preserved : goal.loop-at-preserved
loop-at-preserved c =
    subst (AreBitsSoFar c.args.digits.now (c.loop-at.at + 1)) (sym c.set.ensures)
    (bits_more c.args.digits.now c.loop-at.at c.loop-at.bits _ c.loop-at.invariant c.loop-at-test.true refl)

pub returns : goal.returns
returns c = whole_bits c.args.digits.now c.loop-at.at c.loop-at.bits c.loop-at.invariant c.loop-at-test.false
