use Rattle.std.proofs.Common.{◌∙◌, ◌-◌, ap}
use Rattle.std.specs.Int.Bits.{bit_and}
use Rattle.std.proofs.lemmas.Nat.{one_shl}
use Rattle.net_model.specs.Rows.{bit_of}
use Rattle.net_model.proofs.SingleWords.{bit-masked}
use Rattle.net_model.proofs.words.low_bits.Goals as goal

pub returns-then-count-lt64 : goal.returns-then-count-lt64
returns-then-count-lt64 c k h =
    ap (λ mask. bit_of (bit_and c.args.word (mask - 1)) k) (one_shl c.args.count 64 c.if-count-lt64.true) ∙ bit-masked c.args.word c.args.count k
