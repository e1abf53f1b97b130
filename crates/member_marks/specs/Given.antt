-- The marks that were given so far.
use Rattle.std.specs.Prelude.{◌≡◌, ◌≤◌, ◌<◌, ℕ, List, length, Option, None, Some, option_and_then, slice_index_or, IsSome, All, ◌==◌, if◌then◌else◌}
use Rattle.net_model.specs.ClassTable.{ClassTable, class_at, representative}
use Rattle.result_records.specs.declared.record.Mark.{Mark}
use Rattle.result_records.specs.declared.record.Mark.TheVariants.{Rep}
use Rattle.result_records.specs.declared.record.Evidence.{Evidence}
use Rattle.result_records.specs.Marks.{number_mark}
use Rattle.member_marks.specs.declared.marks.Given.{Given}

abbrev pub given_to : List (Option Given) → ℕ → Option Given
given_to given n = slice_index_or given n None

module _ (t : ClassTable) (given : List (Option Given)) where
  -- the mark of a number: a representative has its own, and another number has what was given to it with its present
  -- representative
  abbrev pub given_mark : ℕ → Option Mark
  given_mark n =
      if representative t (class_at t n) == n then Some Rep
      else option_and_then (λ g. if g.partner == representative t (class_at t n) then Some g.mark else None) (given_to given n)

  -- Each number is a representative or marked.
  abbrev pub AreAllMarked : Type 0
  AreAllMarked = (n : ℕ) → n < length t.class_of → IsSome (given_mark n)

  -- The number is the lowest that is neither a representative nor marked.
  pub record IsLowestOpen (member : ℕ) : Type 0 where
    pub inside : member < length t.class_of
    pub below : (n : ℕ) → n < member → IsSome (given_mark n)
    pub unmarked : given_mark member ≡ None

-- The marks are those that the evidence gives. The evidence is about numbers of the table, and the present
-- representatives aren't lower than those that the evidence names or that marks were given with.
pub record AreGiven (t : ClassTable) (evidence : List Evidence) (given : List (Option Given)) : Type 0 where
  pub whole : length given ≡ length t.class_of
  pub marks : (n : ℕ) → n < length t.class_of → number_mark t evidence n ≡ given_mark t given n
  pub members : All (λ e. e.member < length t.class_of) evidence
  pub partners : All (λ e. e.partner ≤ representative t (class_at t e.member)) evidence
  pub low : (n : ℕ) (g : Given) → n < length t.class_of → given_to given n ≡ Some g → g.partner ≤ representative t (class_at t n)
