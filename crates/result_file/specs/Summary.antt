-- What the lines of a file amount to.
use Rattle.std.specs.Prelude.{Bool, true, false, List, length, count_by}
use Rattle.result_file.specs.declared.checked.Summary.{Summary}
use Rattle.result_records.specs.declared.record.Mark.TheVariants as mark
use Rattle.result_records.specs.declared.record.Record.{Record}
use Rattle.result_records.specs.declared.record.Record.TheVariants.{Member}
use Rattle.result_records.specs.Marks.{patterns_in, class_lines, member_lines}

-- Whether the line marks a member equal.
abbrev pub is_equal : Record → Bool
is_equal (Member number class mark.Equal) = true
is_equal _ = false

-- Whether the line leaves a member open.
abbrev pub is_open : Record → Bool
is_open (Member number class mark.Spent) = true
is_open _ = false

-- How many numbers, patterns and classes there are, and how many members are marked equal or left open.
abbrev pub summary_of : List Record → Summary
summary_of records = record {
  numbers = member_lines records;
  patterns = length (patterns_in records);
  classes = class_lines records;
  equal = count_by is_equal records;
  spent = count_by is_open records;
}
