use Rattle.std.proofs.Common.{◌≡◌, ◌∙◌, ◌+◌, ◌/◌, ◌%◌, ◌<◌, List, Bool, false, ap, eqb, sym, get_or, length, arith}
use Rattle.std.proofs.lemmas.Nat.Bits.{shr_and_one}
use Rattle.std.proofs.lemmas.List.{get_or_read}
use Rattle.net_model.specs.Rows.{bit_of}
use Rattle.packed_bits.proofs.PackedLemmas.{length-packed, packed_at}
use Rattle.packed_bits.proofs.packed.PackedBits.get.Goals as goal

pub index-requires : goal.index-requires
index-requires c =
    let i = c.self.inside in
    omega (arith, c.requires, c.self.invariant, ap length c.self.view_is, length-packed i.len i.words.items, i.words.ok.0)

pub returns : goal.returns
returns c =
    let i = c.self.inside in
    let at = c.args.at in
    let low : at < i.len = omega (arith, c.requires, ap length c.self.view_is, length-packed i.len i.words.items) in
    let within : at / 64 < length i.words.items = omega (arith, low, c.self.invariant) in
    let word = get_or_read i.words.items (at / 64) c.index.result.now within c.index.ensures 0 in
    let first : at / 64 ≡ 0 + at / 64 = omega arith in
    ap (λ b. eqb b 1) (shr_and_one c.index.result.now (at % 64))
    ∙ (ap (λ w. bit_of w (at % 64)) word
    ∙ (ap (λ k. bit_of (get_or i.words.items k 0) (at % 64)) first ∙ (sym (packed_at i.len i.words.items at low) ∙ ap (λ (bits : List Bool). get_or bits at false) c.self.view_is)))
