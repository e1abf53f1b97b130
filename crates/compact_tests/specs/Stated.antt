-- What lines state of numbers, and where the evidence is.
use Rattle.std.specs.Prelude.{◌≡◌, ◌<◌, ◌≤◌, ℕ, List, [], ◌∷◌, ◌++◌, length, All, Option, None, Some, slice_index_or, slice_range, ⊤}
use Rattle.result_records.specs.declared.record.Evidence.{Evidence}
use Rattle.result_records.specs.declared.record.Record.{Record}
use Rattle.result_records.specs.declared.record.Record.TheVariants.{Same}
use Rattle.text_fields.specs.Fields.{Text}
use Rattle.result_records.specs.Spelling.{spelling, text_of, HasSpelling}
use Rattle.result_records.specs.Marks.{evidence_in}
use Rattle.compact_tests.specs.declared.lines.Stated.{Stated}
use Rattle.compact_tests.specs.declared.lines.Span.{Span}
use Rattle.compact_tests.specs.ThinResult.{last_evidence, marks_in}

-- The record can be written, and if it is evidence it names a number below `numbers`.
pub record IsReadableLine (numbers : ℕ) (r : Record) : Type 0 where
  pub spelled : HasSpelling r
  pub known : All (λ e. e.member < numbers) (evidence_in (r ∷ []))

-- The text is that of records that can be written, whose evidence names numbers below `numbers`.
pub record IsReadable (bytes : Text) (numbers : ℕ) (records : List Record) : Type 0 where
  pub text : bytes ≡ text_of records
  pub lines : All (IsReadableLine numbers) records

-- The span is that of the line of the record, with its LF.
pub record IsSpanOf (bytes : Text) (span : Span) (r : Record) : Type 0 where
  pub order : span.start ≤ span.end
  pub within : span.end ≤ length bytes
  pub text : slice_range bytes span.start span.end ≡ text_of (r ∷ [])

-- The span is that of the line of the evidence. There is none exactly if there is no evidence.
abbrev pub IsEvidenceLine : Text → Option Evidence → Option Span → Type 0
IsEvidenceLine bytes None None = ⊤
IsEvidenceLine bytes None (Some span) = ⊥
IsEvidenceLine bytes (Some e) None = ⊥
IsEvidenceLine bytes (Some e) (Some span) = IsSpanOf bytes span (Same e)

-- For each number there is the line of the last evidence that names it, if there is one.
abbrev pub AreEvidenceLines : Text → List Evidence → List (Option Span) → Type 0
AreEvidenceLines bytes evidence lines = (number : ℕ) → number < length lines → IsEvidenceLine bytes (last_evidence evidence number) (slice_index_or lines number None)

-- The marks, and for each number the line of its evidence, are as the records state them.
pub record IsStated (bytes : Text) (numbers : ℕ) (records : List Record) (stated : Stated) : Type 0 where
  pub marks : stated.marks.items ≡ marks_in records
  pub count : length stated.evidence.items ≡ numbers
  pub evidence : AreEvidenceLines bytes (evidence_in records) stated.evidence.items

-- A record was noted after others.
pub record TakesRecord (r : Record) (span : Span) (old new : Stated) : Type 0 where
  pub count : length new.evidence.items ≡ length old.evidence.items
  pub stated : (bytes : Text) (numbers : ℕ) (before : List Record) → IsSpanOf bytes span r → IsStated bytes numbers before old → IsStated bytes numbers (before ++ r ∷ []) new

-- The line of a record was noted after those of others.
pub record NotesLine (bytes : Text) (start end : ℕ) (old new : Stated) : Type 0 where
  pub count : length new.evidence.items ≡ length old.evidence.items
  pub stated : (numbers : ℕ) (before : List Record) (r : Record) → HasSpelling r → spelling r ≡ slice_range bytes start end → IsStated bytes numbers before old → IsStated bytes numbers (before ++ r ∷ []) new

-- The lines up to a place were noted.
pub record IsStatedTo (bytes : Text) (numbers place : ℕ) (records : List Record) (stated : Stated) : Type 0 where
  pub before : List Record
  pub rest : List Record
  pub parts : records ≡ before ++ rest
  pub place_is : place ≡ length (text_of before)
  pub is : IsStated bytes numbers before stated
