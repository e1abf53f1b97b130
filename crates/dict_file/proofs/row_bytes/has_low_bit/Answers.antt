use Rattle.std.proofs.Common.{inl, inr, arith}
use Rattle.std.proofs.lemmas.Bool.{ltb-false, cases_lt, le-ltb}
use Rattle.std.specs.Int.{w8, trailing_zeros}
use Rattle.dict_file.proofs.ReverseLemmas.{low_zeros, low_one}
use Rattle.dict_file.proofs.row_bytes.has_low_bit.Goals as goal

pub returns : goal.returns
returns c =
    let byte = c.args.byte in
    let count = c.args.count in
    let zeros = trailing_zeros w8 byte in (
      λ e. low_zeros byte count (omega arith) c.requires (ltb-false zeros count e),
      λ all. elim (cases_lt zeros count) [
        | inl low ↦ absurd (low_one byte count (omega arith) c.requires low all)
        | inr over ↦ le-ltb zeros count over
      ],
    )
