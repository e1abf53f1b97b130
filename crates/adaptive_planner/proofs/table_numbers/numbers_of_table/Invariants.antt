use Rattle.std.proofs.Common.{length}
use Rattle.dict_rows.specs.Rows.{AreRows}
use Rattle.adaptive_planner.specs.Numbering.{AreClassNumbers, AreNumbersTo, lead_answer}
use Rattle.adaptive_planner.proofs.table_numbers.numbers_of_table.Given as goal

abbrev pub invariant-loop-pattern : goal.invariant-loop-pattern
invariant-loop-pattern l = record {
  shape : AreRows (length l.leads.items) l.table.positions l.rows;
  are : AreClassNumbers l.numbers;
  to : AreNumbersTo (lead_answer l.table l.leads.items) l.pattern (length l.leads.items) l.numbers;
}
