use Rattle.std.proofs.Common.{◌∙◌, ap, arith}
use Rattle.std.specs.Int.{w64, reverse_bits}
use Rattle.dict_file.proofs.ReverseLemmas.{word_of_eight}
use Rattle.dict_file.proofs.packing.word_at.Goals as goal

pub returns : goal.returns
returns c =
    word_of_eight c.args.bytes.now c.args.from c.eight_at.result c.reverse_bits.result c.eight_at.ensures.count (λ i. omega (arith, c.type_inv.bytes i)) c.eight_at.ensures.same
    (c.reverse_bits.ensures ∙ ap (reverse_bits w64) c.from_be_bytes.ensures)
