-- Which numbers are marked, and how many members are marked equal or left open.
use Rattle.std.specs.Prelude.{◌≡◌, ◌<◌, ℕ, List, map, length, count_by, Option, unwrap_or, IsSome}
use Rattle.std.specs.List.{range_with_len}
use Rattle.net_model.specs.ClassTable.{ClassTable, class_at, class_count}
use Rattle.result_records.specs.declared.record.Mark.{Mark}
use Rattle.result_records.specs.declared.record.Mark.TheVariants as mark
use Rattle.result_records.specs.declared.record.Record.{Record}
use Rattle.result_file.specs.Summary.{is_equal, is_open}
use Rattle.result_file.specs.Meaning.{member_records}
use Rattle.member_marks.specs.Given.{given_mark}
use Rattle.member_marks.specs.declared.counts.MarkCounts.{MarkCounts}
use Rattle.member_marks.specs.declared.marks.Given.{Given}

-- The class and the mark of a number.
abbrev pub member_for : ClassTable → List (Option Given) → ℕ → ℕ × Mark
member_for t given n = (class_at t n, unwrap_or (given_mark t given n) mark.Rep)

-- The member lines of the numbers below a bound.
abbrev pub members_below : ClassTable → List (Option Given) → ℕ → List Record
members_below t given n = member_records (map (member_for t given) (range_with_len 0 n))

-- The counts are those of the members below a bound that are marked equal and that are left open.
pub record AreMarkedBelow (t : ClassTable) (given : List (Option Given)) (n : ℕ) (counts : MarkCounts) : Type 0 where
  pub equal : counts.equal ≡ count_by is_equal (members_below t given n)
  pub spent : counts.spent ≡ count_by is_open (members_below t given n)

-- Each number below a bound is a representative or marked.
abbrev pub AreMarkedUpTo : ClassTable → List (Option Given) → ℕ → Type 0
AreMarkedUpTo t given bound = (n : ℕ) → n < bound → IsSome (given_mark t given n)

-- A number that is a representative or marked stays so if, after more cuts, it is in an old class.
abbrev pub DoMarksStay : ClassTable → ClassTable → List (Option Given) → List (Option Given) → Type 0
DoMarksStay t u given later = (n : ℕ) → n < length t.class_of → class_at u n < class_count t → IsSome (given_mark t given n) → IsSome (given_mark u later n)
