-- What lines have stated.
use Rattle.std.specs.Prelude.{◌≡◌, ◌≤◌, ◌<◌, ◌+◌, true, false, List, [], ◌∷◌, ◌++◌, length, count_by, filter_map}
use Rattle.result_records.specs.declared.record.Mark.{Mark}
use Rattle.result_records.specs.declared.record.Record.{Record}
use Rattle.result_records.specs.declared.record.Record.TheVariants.{End}
use Rattle.result_records.specs.Marks.{class_lines, member_lines, end_lines}
use Rattle.result_records.specs.Limits.{AreWithinLimits}
use Rattle.result_file.specs.Lines.{no_budgets, budgets_of, budgets_in}
use Rattle.result_file.specs.Summary.{is_equal, is_open}
use Rattle.member_marks.specs.Counts.{none_counted, counted_with}
use Rattle.dia_check.specs.declared.progress.Progress.{Progress}

abbrev pub no_progress : Progress
no_progress = record { lines = 0; budgets = no_budgets; classes = 0; members = 0; marked = none_counted; ended = false }

-- One more member line, with this mark.
abbrev pub with_member : Progress → Mark → Progress
with_member p mark = record p { lines = p.lines + 1; members = p.members + 1; marked = counted_with p.marked mark }

-- The last record is the end, and there are class lines and member lines before it.
pub record IsEnded (records : List Record) : Type 0 where
  pub before : List Record
  pub ended : records ≡ before ++ End ∷ []
  pub classes : 0 < class_lines records
  pub members : 0 < member_lines records

-- The counts, the budgets and whether the end has come are those of the records. The budgets are within the limits, and
-- aren't on the first line.
pub record IsProgress (records : List Record) (p : Progress) : Type 0 where
  pub lines : p.lines ≡ length records
  pub budgets : p.budgets ≡ budgets_in records
  pub classes : p.classes ≡ class_lines records
  pub members : p.members ≡ member_lines records
  pub equal : p.marked.equal ≡ count_by is_equal records
  pub spent : p.marked.spent ≡ count_by is_open records
  pub few_equal : p.marked.equal ≤ p.members
  pub few_spent : p.marked.spent ≤ p.members
  pub early : length records ≤ 1 → filter_map budgets_of records ≡ []
  pub limits : AreWithinLimits p.budgets
  pub unended : p.ended ≡ false → end_lines records ≡ 0
  pub ended : p.ended ≡ true → IsEnded records
