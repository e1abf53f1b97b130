use Rattle.std.proofs.Common.{◌≡◌, ◌*◌, subst, sym, map, length}
use Rattle.std.specs.List.{range_with_len}
use Rattle.dict_rows.specs.AnswerTable.{Answers, IsTable}
use Rattle.dict_rows.specs.Rows.{AreRows}
use Rattle.dict_rows.specs.Entries.{full_entry}
use Rattle.dict_rows.proofs.TableLemmas.{cells_are, is_table, patterns_are}
use Rattle.dict_rows.proofs.answer_table.AnswerTable.cells.Goals as goal

pub returns-clause-entries : goal.returns-clause-entries
returns-clause-entries c = subst (λ (t : Answers). c.self.inside.cells ≡ map (full_entry t.rows) (range_with_len 0 t.numbers)) c.self.view_is (cells_are c.self.inside c.self.invariant)

pub returns-clause-table : goal.returns-clause-table
returns-clause-table c = subst IsTable c.self.view_is (is_table c.self.inside c.self.invariant)

pub returns-clause-shape : goal.returns-clause-shape
returns-clause-shape c =
    let a = c.self.inside in
    subst (λ (t : Answers). AreRows t.numbers (length t.rows * t.positions) a.cells) c.self.view_is
    (subst (λ n. AreRows a.numbers (n * a.positions) a.cells) (sym (patterns_are a c.self.invariant)) c.self.invariant)
