use Rattle.std.proofs.Common.{subst}
use Rattle.dict_rows.specs.AnswerTable.{IsTable}
use Rattle.dict_rows.proofs.TableLemmas.{is_table}
use Rattle.dict_rows.proofs.answer_table.AnswerTable.numbers.Goals as goal

pub returns-clause-table : goal.returns-clause-table
returns-clause-table c = subst IsTable c.self.view_is (is_table c.self.inside c.self.invariant)
