use Rattle.std.proofs.Common.{false, arith}
use Rattle.std.proofs.lemmas.List.{ext_get_or}
use Rattle.packed_bits.proofs.packed.PackedBits.unpack.Goals as goal

pub returns : goal.returns
returns c =
    let so_far = c.loop-at.invariant in
    ext_get_or false c.loop-at.bits c.args.self.now so_far.long (λ k h. so_far.done k (omega (arith, h, so_far.long, c.len-len.ensures, c.loop-at-test.false)))
