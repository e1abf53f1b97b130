use Rattle.std.proofs.Common.{◌≡◌, ◌*◌, ℕ, subst, arith}
use Rattle.net_model.specs.Rows.{row_bit}
use Rattle.dict_rows.specs.Rows.{AreBitsSet}
use Rattle.dict_rows.proofs.BlockWordLemmas.{bits_none, bits_more}
use Rattle.dict_rows.proofs.WordLemmas.{word_of_packed}
use Rattle.dict_rows.proofs.bits.copy_words.Goals as goal

pub loop-word-init : goal.loop-word-init
loop-word-init c =
    let bits = row_bit c.args.from.now c.args.source in
    let none : ◌≡◌ {A = ℕ} 0 (0 * 64) = omega arith in
    subst (λ n. AreBitsSet c.args.to.now c.args.to.now c.args.target (c.args.begin * 64) n bits) none (bits_none c.args.to.now c.args.target (c.args.begin * 64) bits)

pub bounds-words-word : goal.bounds-words-word
bounds-words-word c = omega (arith, c.row_words-words.ensures.packed.count, c.requires.room)

pub set_word-requires-clause-row : goal.set_word-requires-clause-row
set_word-requires-clause-row c = omega (arith, c.loop-word.invariant.shape.count, c.requires.target)

pub set_word-requires-clause-word : goal.set_word-requires-clause-word
set_word-requires-clause-word c = omega (arith, c.loop-word.invariant.shape.widths c.args.target, c.requires.within)

pub loop-word-preserved : goal.loop-word-preserved
loop-word-preserved c =
    let word = word_of_packed c.row_words-words.ensures.packed c.loop-word.word in
    bits_more c.args.begin c.loop-word.word c.loop-word.invariant c.set_word.ensures (λ k h. word.are k h)

pub returns : goal.returns
returns c =
    let all : c.loop-word.word ≡ c.args.count = omega arith in
    subst (λ n. AreBitsSet c.args.to.now c.loop-word.to c.args.target (c.args.begin * 64) (n * 64) (row_bit c.args.from.now c.args.source)) all c.loop-word.invariant
