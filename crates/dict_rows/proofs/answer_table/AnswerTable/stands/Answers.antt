use Rattle.std.proofs.Common.{subst}
use Rattle.dict_rows.specs.AnswerTable.{IsTable}
use Rattle.dict_rows.proofs.TableLemmas.{is_table}
use Rattle.dict_rows.proofs.answer_table.AnswerTable.stands.Goals as goal

pub returns : goal.returns
returns c = subst IsTable c.self.view_is (is_table c.self.inside c.self.invariant)
