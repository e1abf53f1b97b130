use Rattle.std.proofs.Common.{◌≡◌, ℕ, ◌+◌, ◌<◌, length, get_or, map}
use Rattle.dict_rows.specs.AnswerTable.{answer_to}
use Rattle.dict_rows.specs.Rows.{AreRows}
use Rattle.samediff_dict.specs.declared.numbering.Candidates.{Candidates}
use Rattle.samediff_dict.specs.Numbered.{AreNumbersOf}
use Rattle.samediff_dict.proofs.numbering.add_candidates.Given as goal

abbrev pub invariant-loop-pattern : goal.invariant-loop-pattern
invariant-loop-pattern l = record {
  shape : AreRows (length l.leads) l.table.positions l.rows;
  count : length l.patterns.items ≡ length l.initial.patterns.items + l.pattern;
  before : (k : ℕ) (d : Candidates) → k < length l.initial.patterns.items → get_or l.patterns.items k d ≡ get_or l.initial.patterns.items k d;
  added : (pattern : ℕ) (d : Candidates) → pattern < l.pattern → AreNumbersOf (map (answer_to l.table pattern) l.leads) (get_or l.patterns.items (length l.initial.patterns.items + pattern) d);
}
