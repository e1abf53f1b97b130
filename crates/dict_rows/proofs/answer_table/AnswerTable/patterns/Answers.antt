use Rattle.std.proofs.Common.{◌≡◌, subst, sym, length}
use Rattle.dict_rows.specs.AnswerTable.{Answers, IsTable}
use Rattle.dict_rows.proofs.TableLemmas.{is_table, patterns_are}
use Rattle.dict_rows.proofs.answer_table.AnswerTable.patterns.Goals as goal

pub returns-clause-value : goal.returns-clause-value
returns-clause-value c = subst (λ (t : Answers). c.self.inside.patterns ≡ length t.rows) c.self.view_is (sym (patterns_are c.self.inside c.self.invariant))

pub returns-clause-table : goal.returns-clause-table
returns-clause-table c = subst IsTable c.self.view_is (is_table c.self.inside c.self.invariant)
