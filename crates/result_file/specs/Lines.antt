-- The rule of each line of a result file, given the lines before it.
use Rattle.std.specs.Prelude.{◌≡◌, ◌≢◌, ℕ, ◌≤◌, ◌<◌, Bool, List, [], length, Option, None, Some, slice_get, filter_map, unwrap_or, ⊤}
use Rattle.net_model.specs.declared.fault.Fault.{Fault}
use Rattle.net_model.specs.Circuit.{Circuit}
use Rattle.net_model.specs.FaultList.{fault_count, fault_numbered}
use Rattle.net_model.specs.Collapse.{root}
use Rattle.net_model.specs.ClassTable.{ClassTable, class_at, class_count, representative}
use Rattle.net_model.specs.PatternRows.{IsTableOf, SplitsClass}
use Rattle.pair_sets.specs.Tree.{IsCovering, IsSpending}
use Rattle.pair_miter.specs.Miter.{miter}
use Rattle.pair_miter.specs.Log.{IsRefutation, IsSpentLog}
use Rattle.result_records.specs.declared.record.Budgets.{Budgets}
use Rattle.result_records.specs.declared.record.Mark.{Mark}
use Rattle.result_records.specs.declared.record.Proof.{Proof}
use Rattle.result_records.specs.declared.record.Proof.TheVariants as proof
use Rattle.result_records.specs.declared.record.Evidence.{Evidence}
use Rattle.result_records.specs.declared.record.Record.{Record}
use Rattle.result_records.specs.declared.record.Record.TheVariants.{Head, Budget, Pattern, Same, Class, Member, End}
use Rattle.result_records.specs.Limits.{AreWithinLimits}
use Rattle.result_records.specs.Marks.{evidence_in, patterns_in, class_lines, member_lines, end_lines, number_mark, next_member}

-- Budgets of 0.
abbrev pub no_budgets : Budgets
no_budgets = record { blocks = 0; cubes = 0; conflicts = 0 }

-- The budgets of a record, if it states them.
abbrev pub budgets_of : Record → Option Budgets
budgets_of (Budget budgets) = Some budgets
budgets_of _ = None

-- The budgets that a file states first, or budgets of 0 if it states none.
abbrev pub budgets_in : List Record → Budgets
budgets_in records = unwrap_or (slice_get (filter_map budgets_of records) 0) no_budgets

-- ---- places

-- A record of this kind is allowed after these lines.
abbrev pub IsInPlace : ClassTable → List Record → Record → Type 0
IsInPlace t before (Head sources positions numbers) = before ≡ []
IsInPlace t before (Budget budgets) = length before ≡ 1
IsInPlace t before (Pattern bits) = (2 ≤ length before) × (class_lines before ≡ 0)
IsInPlace t before (Same evidence) = (2 ≤ length before) × (class_lines before ≡ 0)
IsInPlace t before (Class number birth) = (2 ≤ length before) × (member_lines before ≡ 0)
IsInPlace t before (Member number class mark) = (class_lines before ≡ class_count t) × (end_lines before ≡ 0)
IsInPlace t before End = (class_lines before ≡ class_count t) × (member_lines before ≡ length t.class_of) × (end_lines before ≡ 0)

-- ---- evidence

-- The evidence names the lowest number that is neither a representative nor marked, with its representative.
pub record NamesNext (t : ClassTable) (before : List Record) (evidence : Evidence) : Type 0 where
  pub member : next_member t (evidence_in before) ≡ Some evidence.member
  pub partner : evidence.partner ≡ representative t (class_at t evidence.member)

module _ (c : Circuit) (f g : Fault) where
  -- The roots are the same for a proof by collapse, and different for any other.
  abbrev pub HasRightRoots : Proof → Type 0
  HasRightRoots proof.Collapse = root c f ≡ root c g
  HasRightRoots (proof.Covered tree) = root c f ≢ root c g
  HasRightRoots (proof.Refuted tree log) = root c f ≢ root c g
  HasRightRoots (proof.Spent tree log) = root c f ≢ root c g

  -- The tree is right for the pair and the budget of cubes, and the log for the miter of the pair and the budget of
  -- conflicts.
  abbrev pub IsRightProof : Budgets → Proof → Type 0
  IsRightProof budgets proof.Collapse = ⊤
  IsRightProof budgets (proof.Covered tree) = IsCovering c f g budgets.cubes tree
  IsRightProof budgets (proof.Refuted tree log) = IsSpending c f g budgets.cubes tree × IsRefutation (miter c f g) budgets.conflicts log
  IsRightProof budgets (proof.Spent tree log) = IsSpending c f g budgets.cubes tree × IsSpentLog (miter c f g) budgets.conflicts log

-- The evidence names the next member with its representative, and its roots and its proof are right for their faults.
pub record IsRightEvidence (c : Circuit) (t : ClassTable) (before : List Record) (evidence : Evidence) : Type 0 where
  pub next : NamesNext t before evidence
  pub roots : HasRightRoots c (fault_numbered c evidence.partner) (fault_numbered c evidence.member) evidence.proof
  pub right : IsRightProof c (fault_numbered c evidence.partner) (fault_numbered c evidence.member) (budgets_in before) evidence.proof

-- ---- each record

-- The pattern has a bit for each source and splits a class of the patterns before it.
pub record IsRightPattern (c : Circuit) (before : List Record) (bits : List Bool) : Type 0 where
  pub width : length bits ≡ c.sources
  pub splits : SplitsClass c (patterns_in before) bits

-- The line is the next class line, with the class's birth, and no number is left without a mark.
pub record IsRightClass (t : ClassTable) (before : List Record) (number : ℕ) (birth : Option (ℕ × ℕ)) : Type 0 where
  pub next : number ≡ class_lines before
  pub birth_is : slice_get t.births number ≡ Some birth
  pub complete : next_member t (evidence_in before) ≡ None

-- The line is the next member line, with the number's class and mark.
pub record IsRightMember (t : ClassTable) (before : List Record) (number class : ℕ) (mark : Mark) : Type 0 where
  pub next : number ≡ member_lines before
  pub inside : number < length t.class_of
  pub class_is : class ≡ class_at t number
  pub mark_is : number_mark t (evidence_in before) number ≡ Some mark

-- What the record says is right after these lines: the circuit's numbers, budgets within their limits, or a right
-- pattern, evidence, class or member.
abbrev pub IsRightContent : Circuit → ClassTable → List Record → Record → Type 0
IsRightContent c t before (Head sources positions numbers) = (sources ≡ c.sources) × (positions ≡ length c.positions) × (numbers ≡ fault_count c)
IsRightContent c t before (Budget budgets) = AreWithinLimits budgets
IsRightContent c t before (Pattern bits) = IsRightPattern c before bits
IsRightContent c t before (Same evidence) = IsRightEvidence c t before evidence
IsRightContent c t before (Class number birth) = IsRightClass t before number birth
IsRightContent c t before (Member number class mark) = IsRightMember t before number class mark
IsRightContent c t before End = ⊤

-- The record is allowed after these lines, and what it says is right.
pub record IsRightLine (c : Circuit) (before : List Record) (r : Record) : Type 0 where
  pub t : ClassTable
  pub table : IsTableOf c (patterns_in before) t
  pub place : IsInPlace t before r
  pub content : IsRightContent c t before r
