use Rattle.std.proofs.Common.{◌∙◌, ◌<◌, sym, ap, length, arith}
use Rattle.net_model.specs.Rows.{row_bit}
use Rattle.dict_rows.specs.AnswerTable.{Answers, answer_bit}
use Rattle.dict_rows.proofs.TableLemmas.{patterns_are, bit_is, bit_inside}
use Rattle.dict_rows.proofs.answer_table.AnswerTable.get.Goals as goal

pub get-requires-clause-at : goal.get-requires-clause-at
get-requires-clause-at c =
    omega (arith, bit_inside c.self.inside c.self.invariant c.args.self.now c.self.view_is c.args.pattern c.args.number c.args.position c.requires.pattern c.requires.number c.requires.position, c.place-at.ensures)

pub returns : goal.returns
returns c =
    let a = c.self.inside in
    let hp : c.args.pattern < a.patterns = omega (arith, c.requires.pattern, ap (λ (t : Answers). length t.rows) c.self.view_is, patterns_are a c.self.invariant) in
    let hn : c.args.number < a.numbers = omega (arith, c.requires.number, ap (λ (t : Answers). t.numbers) c.self.view_is) in
    let hk : c.args.position < a.positions = omega (arith, c.requires.position, ap (λ (t : Answers). t.positions) c.self.view_is) in
    c.get.ensures ∙ (ap (row_bit a.cells c.args.number) c.place-at.ensures
    ∙ (sym (bit_is a c.self.invariant c.args.pattern c.args.number c.args.position hp hn hk) ∙ ap (λ (t : Answers). answer_bit t c.args.pattern c.args.number c.args.position) c.self.view_is))
