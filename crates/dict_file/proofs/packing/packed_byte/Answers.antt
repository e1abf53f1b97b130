use Rattle.std.proofs.Common.{◌/◌, get_or, refl, arith}
use Rattle.dict_file.proofs.ReverseLemmas.{byte_of_words}
use Rattle.dict_file.proofs.packing.packed_byte.Goals as goal

pub returns : goal.returns
returns c = λ row packed.
    byte_of_words c.args.words.now c.args.at (get_or c.args.words.now (c.args.at / 8) 0) _ c.reverse_bits.result row refl refl c.reverse_bits.ensures (omega arith) c.requires packed
