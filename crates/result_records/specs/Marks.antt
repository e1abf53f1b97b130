-- What the records of a file state so far: its patterns, its evidence, and the marks that the evidence gives.
use Rattle.std.specs.Prelude.{ℕ, Bool, true, false, ◌&&◌, List, filter_map, count_by, find, Option, None, Some, option_map, is_none, ◌==◌, if◌then◌else◌}
use Rattle.net_model.specs.ClassTable.{ClassTable, class_at, representative, number_range}
use Rattle.result_records.specs.declared.record.Mark.{Mark}
use Rattle.result_records.specs.declared.record.Mark.TheVariants as mark
use Rattle.result_records.specs.declared.record.Proof.{Proof}
use Rattle.result_records.specs.declared.record.Proof.TheVariants as proof
use Rattle.result_records.specs.declared.record.Evidence.{Evidence}
use Rattle.result_records.specs.declared.record.Record.{Record}
use Rattle.result_records.specs.declared.record.Record.TheVariants.{Pattern, Same, Class, Member, End}

-- The pattern of a record, if it is one.
abbrev pub pattern_of : Record → Option (List Bool)
pattern_of (Pattern bits) = Some bits
pattern_of _ = None

-- The evidence of a record, if it is one.
abbrev pub evidence_of : Record → Option Evidence
evidence_of (Same evidence) = Some evidence
evidence_of _ = None

-- The patterns among the records, in order.
abbrev pub patterns_in : List Record → List (List Bool)
patterns_in records = filter_map pattern_of records

-- The evidence among the records, in order.
abbrev pub evidence_in : List Record → List Evidence
evidence_in records = filter_map evidence_of records

-- Whether the record is a class line.
abbrev pub is_class : Record → Bool
is_class (Class number birth) = true
is_class _ = false

-- Whether the record is a member line.
abbrev pub is_member : Record → Bool
is_member (Member number class mark) = true
is_member _ = false

-- Whether the record is the end.
abbrev pub is_end : Record → Bool
is_end End = true
is_end _ = false

-- How many class lines there are.
abbrev pub class_lines : List Record → ℕ
class_lines records = count_by is_class records

-- How many member lines there are.
abbrev pub member_lines : List Record → ℕ
member_lines records = count_by is_member records

-- How many ends there are.
abbrev pub end_lines : List Record → ℕ
end_lines records = count_by is_end records

-- The mark that a proof gives: open if it spends the budgets, else equal.
abbrev pub mark_of : Proof → Mark
mark_of proof.Collapse = mark.Equal
mark_of (proof.Covered tree) = mark.Equal
mark_of (proof.Refuted tree log) = mark.Equal
mark_of (proof.Spent tree log) = mark.Spent

-- Whether the evidence names the number with the representative that it has in the table.
abbrev pub is_about : ClassTable → ℕ → Evidence → Bool
is_about t n evidence = evidence.member == n && evidence.partner == representative t (class_at t n)

-- The mark of a number: that of a representative, or for another member that of the first evidence that names it with
-- its representative, or none if there is none.
unfoldable pub number_mark : ClassTable → List Evidence → ℕ → Option Mark
number_mark t evidence n = if representative t (class_at t n) == n then Some mark.Rep else option_map (λ e. mark_of e.proof) (find (is_about t n) evidence)

-- The lowest number that is neither a representative nor marked, if there is one.
unfoldable pub next_member : ClassTable → List Evidence → Option ℕ
next_member t evidence = find (λ n. is_none (number_mark t evidence n)) (number_range t)
