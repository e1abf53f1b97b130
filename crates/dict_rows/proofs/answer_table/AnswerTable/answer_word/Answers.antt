use Rattle.std.proofs.Common.{◌<◌, length, ap, subst, arith}
use Rattle.dict_rows.specs.AnswerTable.{Answers, answer_to}
use Rattle.dict_rows.specs.Rows.{IsWordOf}
use Rattle.dict_rows.proofs.TableLemmas.{patterns_are}
use Rattle.dict_rows.proofs.WordLemmas.{answer_word_is}
use Rattle.dict_rows.proofs.answer_table.AnswerTable.answer_word.Goals as goal

pub returns : goal.returns
returns c =
    let a = c.self.inside in
    let hp : c.args.pattern < a.patterns = omega (arith, c.requires.pattern, ap (λ (t : Answers). length t.rows) c.self.view_is, patterns_are a c.self.invariant) in
    let hn : c.args.number < a.numbers = omega (arith, c.requires.number, ap (λ (t : Answers). t.numbers) c.self.view_is) in
    subst (λ (t : Answers). IsWordOf (answer_to t c.args.pattern c.args.number) c.args.word c.low_bits.result) c.self.view_is
    (answer_word_is a c.self.invariant c.args.pattern c.args.number c.args.word hp hn c.row_words.result.now c.place-at.result c.word_at-bits.result c.low_bits.result c.row_words.ensures.packed c.place-at.ensures c.word_at-bits.ensures
    c.low_bits.ensures)
