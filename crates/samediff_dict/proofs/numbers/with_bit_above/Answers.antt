use Rattle.std.proofs.Common.{◌≡◌, ◌∙◌, ◌*◌, ◌%◌, ◌^◌, ap, arith}
use Rattle.std.specs.Prelude.{bit_or}
use Rattle.std.specs.Int.Bits.{or_shifted_r}
use Rattle.std.proofs.lemmas.Nat.{one_shl}
use Rattle.samediff_dict.proofs.numbers.with_bit_above.Goals as goal

pub returns : goal.returns
returns c =
    let word = c.args.word in
    let bit = c.args.bit in
    let whole : 1 * 2 ^ bit % 2 ^ 64 ≡ 1 * 2 ^ bit = omega (arith, one_shl bit 64 c.requires.bit) in
    ap (bit_or word) whole ∙ or_shifted_r 1 bit word c.requires.above ∙ omega arith
