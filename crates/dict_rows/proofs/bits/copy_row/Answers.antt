use Rattle.std.proofs.Common.{◌≡◌, ◌∙◌, ◌+◌, ◌/◌, ◌%◌, ◌*◌, ℕ, get_or, ap, subst, arith}
use Rattle.net_model.specs.Rows.{bit_of, row_at}
use Rattle.dict_rows.specs.Rows.{IsRowBegun}
use Rattle.dict_rows.proofs.RowLemmas.{begun_none, begun_all}
use Rattle.dict_rows.proofs.BlockWordLemmas.{words_more}
use Rattle.dict_rows.proofs.bits.copy_row.Goals as goal

pub set_word-requires-clause-row : goal.set_word-requires-clause-row
set_word-requires-clause-row c = omega (arith, c.loop-word.invariant.shape.count, c.requires.target)

pub set_word-requires-clause-word : goal.set_word-requires-clause-word
set_word-requires-clause-word c = omega (arith, c.loop-word.invariant.shape.widths c.args.target, c.requires.width, c.row_words-bits-items.ensures.packed.count)

pub loop-word-init : goal.loop-word-init
loop-word-init c = let none : ◌≡◌ {A = ℕ} 0 (0 * 64) = omega arith in subst (λ n. IsRowBegun c.args.to.now c.args.to.now c.args.target n (row_at c.args.from.now c.args.source)) none (begun_none c.args.target (row_at c.args.from.now c.args.source))

pub loop-word-preserved : goal.loop-word-preserved
loop-word-preserved c =
    let words = c.row_words-bits-items.result.now in
    let word = c.loop-word.word in
    words_more c.loop-word.invariant c.set_word.ensures c.requires.width (λ k h e.
    let here : word ≡ 0 + k / 64 = omega (arith, e) in
    ap (λ j. bit_of (get_or words j 0) (k % 64)) here ∙ c.row_words-bits-items.ensures.packed.bits k (omega (arith, e)))

pub returns : goal.returns
returns c = begun_all c.loop-word.invariant c.requires.width (omega (arith, c.row_words-bits-items.ensures.packed.count))
