-- Rows of marks.
use Rattle.std.proofs.Common.{◌≡◌, ◌∙◌, ℕ, zero, suc, ◌+◌, ◌<◌, Bool, List, [], ◌∷◌, length, map, get_or, refl, sym, subst, arith}
use Rattle.std.specs.Prelude.{zip, All, Some, slice_get}
use Rattle.net_model.specs.Answer.{bit_at}
use Rattle.net_model.specs.Rows.{row_at}
use Rattle.dict_rows.specs.Rows.{IsRowBegun, IsRowSet, AreRowsBegun}
use Rattle.dict_rows.proofs.RowLemmas.{rows_more}
use Rattle.ranked_diag.specs.declared.partial.Seen.{Seen}
use Rattle.ranked_diag.specs.PartialLog.{Line}
use Rattle.suspect_scores.specs.declared.marks.LogMarks.{LogMarks}
use Rattle.suspect_scores.specs.Marks.{logged_line, wrong_row, right_row, AreMarksBegun, AreMarksOf}
use Rattle.suspect_scores.specs.Scored.{AreMarkRows}

-- ---- one row

module _ (test : Seen → Bool → Bool) where
  abbrev pub tested : List Bool → List Seen → List Bool
  tested free seen = map (λ x. test x.0 x.1) (zip seen free)

  pub tested_long : (free : List Bool) (seen : List Seen) → length free ≡ length seen → length (tested free seen) ≡ length seen
  tested_long free [] same = refl
  tested_long [] (s ∷ seen) same = absurd (omega (arith, same))
  tested_long (f ∷ free) (s ∷ seen) same = omega (arith, tested_long free seen (omega (arith, same)))

  pub tested_at : (free : List Bool) (seen : List Seen) (k : ℕ) (d : Seen) → length free ≡ length seen → k < length seen → bit_at (tested free seen) k ≡ test (get_or seen k d) (bit_at free k)
  tested_at free [] k d same h = absurd (omega (arith, h))
  tested_at [] (s ∷ seen) k d same h = absurd (omega (arith, same))
  tested_at (f ∷ free) (s ∷ seen) zero d same h = refl
  tested_at (f ∷ free) (s ∷ seen) (suc k) d same h = tested_at free seen k d (omega (arith, same)) (omega (arith, h))

-- The marks of a line are set at the positions before `at`.
pub record IsMarkedTo (old new : LogMarks) (line at : ℕ) (seen : List Seen) : Type 0 where
  pub free : new.free ≡ old.free
  pub wrong : IsRowBegun old.wrong new.wrong line at (wrong_row (row_at old.free line) seen)
  pub right : IsRowBegun old.right new.right line at (right_row (row_at old.free line) seen)

-- ---- all rows

pub got_line : (lines : List Line) (k : ℕ) (line : Line) → slice_get lines k ≡ Some line → logged_line lines k ≡ line
got_line [] k line e = let clash = e in cc
got_line (x ∷ lines) zero line e = let same = e in cc
got_line (x ∷ lines) (suc k) line e = got_line lines k line e

pub marks_more : (free : ℕ → List Bool) (positions : ℕ) (lines : List Line) (k : ℕ) (seen : List Seen) (old new : LogMarks) (freed : List (List Bool)) → AreMarksBegun free positions lines k old → IsRowSet old.free freed k (free k) → new.free ≡ freed
    → (logged_line lines k).1 ≡ seen → IsRowSet old.wrong new.wrong k (wrong_row (row_at freed k) seen) → IsRowSet old.right new.right k (right_row (row_at freed k) seen) → AreMarksBegun free positions lines (k + 1) new
marks_more free positions lines k seen old new freed so_far one same is wrong right = record {
  frees = subst (λ rows. AreRowsBegun (length lines) positions (k + 1) free rows) (sym same) (rows_more so_far.frees one);
  wrongs = rows_more so_far.wrongs (subst (λ row. IsRowSet old.wrong new.wrong k row) ((λ i. wrong_row (one.here i) seen) ∙ (λ i. wrong_row (free k) (sym is i))) wrong);
  rights = rows_more so_far.rights (subst (λ row. IsRowSet old.right new.right k row) ((λ i. right_row (one.here i) seen) ∙ (λ i. right_row (free k) (sym is i))) right);
}

pub mark_rows : (free : ℕ → List Bool) (positions : ℕ) (lines : List Line) (done : ℕ) (m : LogMarks) → AreMarksBegun free positions lines done m → AreMarkRows (length lines) positions m
mark_rows free positions lines done m are = record { frees = are.frees.are; wrongs = are.wrongs.are; rights = are.rights.are }

-- by other rows that are the same
pub marks_as : (free other : ℕ → List Bool) (positions places : ℕ) (lines : List Line) (m : LogMarks) → positions ≡ places → ((k : ℕ) → k < length lines → free k ≡ other k) → AreMarksOf free positions lines m → AreMarksOf other places lines m
marks_as free other positions places lines m wide same are = subst (λ n. AreMarksOf other n lines m) wide (record {
  frees = record { are = are.frees.are; begun = λ k h. are.frees.begun k h ∙ same k h };
  wrongs = record { are = are.wrongs.are; begun = λ k h. are.wrongs.begun k h ∙ (λ i. wrong_row (same k h i) (logged_line lines k).1) };
  rights = record { are = are.rights.are; begun = λ k h. are.rights.begun k h ∙ (λ i. right_row (same k h i) (logged_line lines k).1) };
})

pub line_long : (positions : ℕ) (lines : List Line) (k : ℕ) (line : Line) → slice_get lines k ≡ Some line → All (λ l. length l.1 ≡ positions) lines → k < length lines → length line.1 ≡ positions
line_long positions lines k line got wide h = (λ i. length (sym (got_line lines k line got) i).1) ∙ wide k (0, []) h

pub bit_marked : (test : Seen → Bool → Bool) (free now : List (List Bool)) (line at : ℕ) (seen : List Seen) (d : Seen) (bit result : Bool) → now ≡ free → length (row_at free line) ≡ length seen → at < length seen → bit ≡ bit_at (row_at now line) at
    → result ≡ test (get_or seen at d) bit → result ≡ bit_at (tested test (row_at free line) seen) at
bit_marked test free now line at seen d bit result same wide h is told =
    told ∙ ((λ i. test (get_or seen at d) (is i)) ∙ ((λ i. test (get_or seen at d) (bit_at (row_at (same i) line) at)) ∙ sym (tested_at test (row_at free line) seen at d wide h)))

-- the same with equal numbers of lines and positions
pub sized : (lines positions count width : ℕ) (m : LogMarks) → lines ≡ count → positions ≡ width → AreMarkRows lines positions m → AreMarkRows count width m
sized lines positions count width m a b are = subst (λ n. AreMarkRows n width m) a (subst (λ n. AreMarkRows lines n m) b are)
