use Rattle.std.proofs.Common.{◌∙◌, ◌-◌, count_ones, ap}
use Rattle.std.specs.Prelude.{bit_and}
use Rattle.std.proofs.lemmas.Nat.{one_shl, and_mask}
use Rattle.samediff_dict.proofs.numbers.ones_below.Goals as goal

pub returns : goal.returns
returns c = ap (λ n. count_ones (bit_and c.args.word (n - 1))) (one_shl c.args.bit 64 c.requires) ∙ ap count_ones (and_mask c.args.word c.args.bit)
