-- How many members are marked equal or left open, number by number.
use Rattle.std.specs.Prelude.{◌+◌}
use Rattle.result_records.specs.declared.record.Mark.{Mark}
use Rattle.result_records.specs.declared.record.Mark.TheVariants as mark
use Rattle.member_marks.specs.declared.counts.MarkCounts.{MarkCounts}

abbrev pub none_counted : MarkCounts
none_counted = record { equal = 0; spent = 0 }

-- the counts with one more number, which has this mark
abbrev pub counted_with : MarkCounts → Mark → MarkCounts
counted_with counts mark.Rep = counts
counted_with counts mark.Equal = record counts { equal = counts.equal + 1 }
counted_with counts mark.Spent = record counts { spent = counts.spent + 1 }
