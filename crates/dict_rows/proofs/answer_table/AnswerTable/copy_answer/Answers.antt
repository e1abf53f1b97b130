use Rattle.std.proofs.Common.{◌≡◌, ◌∙◌, ◌*◌, ℕ, sym, subst, arith}
use Rattle.dict_rows.specs.AnswerTable.{answer_to}
use Rattle.dict_rows.specs.Rows.{IsRowBegun}
use Rattle.dict_rows.proofs.RowLemmas.{begun_none, begun_all}
use Rattle.dict_rows.proofs.BlockWordLemmas.{words_more}
use Rattle.dict_rows.proofs.WordLemmas.{bit_in}
use Rattle.dict_rows.proofs.answer_table.AnswerTable.copy_answer.Goals as goal

pub set_word-requires-clause-row : goal.set_word-requires-clause-row
set_word-requires-clause-row c = omega (arith, c.loop-word.invariant.shape.count, c.requires.row)

pub set_word-requires-clause-word : goal.set_word-requires-clause-word
set_word-requires-clause-word c = omega (arith, c.loop-word.invariant.shape.widths c.args.row, c.requires.width, c.positions.ensures.value, c.div_ceil-word-end.ensures)

pub loop-word-init : goal.loop-word-init
loop-word-init c =
    let answer = answer_to c.args.self.now c.args.pattern c.args.number in
    let none : ◌≡◌ {A = ℕ} 0 (0 * 64) = omega arith in
    subst (λ n. IsRowBegun c.args.rows.now c.args.rows.now c.args.row n answer) none (begun_none c.args.row answer)

pub loop-word-preserved : goal.loop-word-preserved
loop-word-preserved c =
    let wide = c.positions.ensures.table.positions c.args.pattern c.args.number c.requires.pattern c.requires.number in
    words_more c.loop-word.invariant c.set_word.ensures (c.requires.width ∙ sym wide) (λ k h e. bit_in c.answer_word-bits.ensures k e)

pub returns : goal.returns
returns c =
    let wide = c.positions.ensures.table.positions c.args.pattern c.args.number c.requires.pattern c.requires.number in
    begun_all c.loop-word.invariant (c.requires.width ∙ sym wide) (omega (arith, wide, c.positions.ensures.value, c.div_ceil-word-end.ensures))
