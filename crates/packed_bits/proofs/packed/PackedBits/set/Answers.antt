use Rattle.std.proofs.Common.{◌∙◌, ◌/◌, ◌%◌, ◌<◌, List, Bool, ap, cond, eqb, get_or, set, length, arith}
use Rattle.std.proofs.lemmas.List.{get_or_read}
use Rattle.net_model.specs.Rows.{bit_of}
use Rattle.net_model.proofs.RowLemmas.{HasBit}
use Rattle.packed_bits.proofs.PackedLemmas.{length-packed, packed_set}
use Rattle.packed_bits.proofs.packed.PackedBits.set.Goals as goal

pub index-requires : goal.index-requires
index-requires c =
    let i = c.self.inside in
    omega (arith, c.requires, c.self.invariant, ap length c.self.view_is, length-packed i.len i.words.items, i.words.ok.0)

pub index_mut-requires : goal.index_mut-requires
index_mut-requires c =
    let i = c.self.inside in
    omega (arith, c.requires, c.self.invariant, ap length c.self.view_is, length-packed i.len i.words.items, i.words.ok.0)

pub returns : goal.returns
returns c =
    let i = c.self.inside in
    let at = c.args.at in
    let low : at < i.len = omega (arith, c.requires, ap length c.self.view_is, length-packed i.len i.words.items) in
    let within : at / 64 < length i.words.items = omega (arith, low, c.self.invariant) in
    let old = get_or_read i.words.items (at / 64) c.index.result.now within c.index.ensures 0 in
    let has : HasBit (at % 64) c.args.bit (get_or i.words.items (at / 64) 0) c.with_bit.result =
    record { fits = c.with_bit.type_inv; bits = λ k h. c.with_bit.ensures k h ∙ ap (λ w. cond (eqb k (at % 64)) c.args.bit (bit_of w k)) old } in
    packed_set i.len i.words.items at c.with_bit.result c.args.bit low within has ∙ ap (λ (bits : List Bool). set bits at c.args.bit) c.self.view_is
