use Rattle.std.proofs.Common.{◌≢◌, ◌+◌, ◌<◌, ℕ, arith}
use Rattle.samediff_dict.proofs.KeyLemmas.{cleared_key, entries_long, plain_key}
use Rattle.samediff_dict.proofs.descending.Descent.key.Goals as goal
use Rattle.samediff_dict.proofs.descending.Descent.key.Goals.{else-first-self-via-then-first-self+else-self-end, else-first-self-via-else-first-self}

pub row_words-requires : goal.row_words-requires
row_words-requires c = let long = entries_long c.args.self.now c.requires.can in omega (arith, long, c.requires.class)

pub returns-then-self-end : goal.returns-then-self-end
returns-then-self-end c =
    cleared_key c.args.self.now c.requires.can c.args.first c.args.end c.args.class c.requires.within c.requires.class c.row_words.result.now c.row_words.ensures.packed c.word_at-word.result c.low_bits-bits.result c.word_at-word.ensures
    c.low_bits-bits.ensures c.with_bit.result c.with_bit.type_inv c.if-first-self.true c.if-self-end.true c.with_bit.ensures

pub returns-else-first-self : goal.returns-else-first-self
returns-else-first-self c =
    let d = c.args.self.now in
    let apart : (k : ℕ) → c.args.first + k < c.args.end → c.args.first + k ≢ d.out = λ k below same. elim c.else-first-self.branch [
      | else-first-self-via-then-first-self+else-self-end w ↦ let out = w.if-self-end.false in omega (arith, out, below, same)
      | else-first-self-via-else-first-self w ↦ let out = w.if-first-self.false in omega (arith, out, same)
    ] in
    plain_key d c.requires.can c.args.first c.args.end c.args.class c.requires.within c.requires.class c.row_words.result.now c.row_words.ensures.packed c.word_at-word.result c.low_bits-bits.result c.word_at-word.ensures c.low_bits-bits.ensures
    c.low_bits-bits.type_inv apart
