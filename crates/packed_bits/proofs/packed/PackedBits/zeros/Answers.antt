use Rattle.std.proofs.Common.{◌≡◌, ◌∙◌, ap, replicate}
use Rattle.packed_bits.specs.Packed.{packed_bits}
use Rattle.packed_bits.proofs.PackedLemmas.{packed_zeros}
use Rattle.packed_bits.proofs.packed.PackedBits.zeros.Goals as goal

pub returns : goal.returns
returns c =
    let items : c.in_ok-vec.field-0.items ≡ replicate c.div_ceil.result 0 = c.in_ok-vec.ensures.items_if_clones_equal (λ y e. e) in
    ap (packed_bits c.args.len) items ∙ packed_zeros c.args.len c.div_ceil.result
