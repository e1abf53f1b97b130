use Rattle.std.proofs.Common.{◌∙◌, length, sym, ap}
use Rattle.packed_bits.proofs.PackedLemmas.{length-packed}
use Rattle.packed_bits.proofs.packed.PackedBits.len.Goals as goal

pub returns : goal.returns
returns c = sym (length-packed c.self.inside.len c.self.inside.words.items) ∙ ap length c.self.view_is
