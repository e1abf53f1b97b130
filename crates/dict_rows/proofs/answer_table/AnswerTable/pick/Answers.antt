use Rattle.std.proofs.Common.{◌<◌, length, ap, subst, arith}
use Rattle.std.specs.Prelude.{All}
use Rattle.dict_rows.specs.AnswerTable.{Answers, ArePicked}
use Rattle.dict_rows.specs.AnswerTableFields.{table_of}
use Rattle.dict_rows.proofs.TableLemmas.{cells_picked, are_picked}
use Rattle.dict_rows.proofs.answer_table.AnswerTable.pick.Goals as goal
use Rattle.dict_rows.proofs.answer_table.AnswerTable.pick.Goals.{In_ok-cells}

pub rows_at-requires : goal.rows_at-requires
rows_at-requires c = λ k d h. omega (arith, c.requires.inside k d h, ap (λ (t : Answers). t.numbers) c.self.view_is, c.self.invariant.count_is)

within : (c : In_ok-cells) → All (λ number. number < c.self.inside.numbers) c.args.numbers.now
within c = λ k d h. omega (arith, c.requires.inside k d h, ap (λ (t : Answers). t.numbers) c.self.view_is)

pub invariant_of-result : goal.invariant_of-result
invariant_of-result c = let at = (goal.at.invariant_of-result c).In_ok-cells in cells_picked c.self.inside c.self.invariant c.args.numbers.now (within at) c.in_ok-cells.cells c.in_ok-cells.ensures

pub returns : goal.returns
returns c =
    let at = (goal.at.returns c).In_ok-cells in
    let a = c.self.inside in
    subst (λ (t : Answers). ArePicked t c.args.numbers.now (table_of (record { cells = c.in_ok-cells.cells; patterns = a.patterns; numbers = length c.args.numbers.now; positions = a.positions }))) c.self.view_is
    (are_picked a c.self.invariant c.args.numbers.now (within at) c.in_ok-cells.cells c.in_ok-cells.ensures)
