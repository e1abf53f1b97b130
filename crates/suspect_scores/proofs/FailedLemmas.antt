-- How many rows have a mark at a bit of the log that differs from number 0.
use Rattle.std.proofs.Common.{◌≡◌, ◌∙◌, ℕ, Bool, false, List, [], ◌∷◌, length, map, refl, sym, ap, arith}
use Rattle.std.specs.Prelude.{count_by, zip, nat_lt}
use Rattle.std.proofs.lemmas.List.Sums.{length-filter}
use Rattle.net_model.specs.Answer.{bit_at}
use Rattle.net_model.specs.Rows.{row_at}
use Rattle.dict_rows.specs.AnswerTable.{Answers, answer_to}
use Rattle.ranked_diag.specs.declared.partial.Seen.{Seen}
use Rattle.ranked_diag.specs.Seen.{differs, differing_bits}
use Rattle.ranked_diag.specs.PartialLog.{Line}
use Rattle.suspect_scores.specs.declared.marks.LogMarks.{LogMarks}
use Rattle.suspect_scores.specs.Scores.{is_failing, failing}
use Rattle.suspect_scores.specs.Scored.{count_to, row_bits}
use Rattle.suspect_scores.specs.Marks.{logged_line, wrong_row, AreMarks}
use Rattle.suspect_scores.proofs.ScoreLemmas.{count_more}
use Rattle.suspect_scores.proofs.RangeSums.{count_listed}

count_mapped : {X : Type 0} (f : X → Bool) (xs : List X) → count_by (λ (b : Bool). b) (map f xs) ≡ count_by f xs
count_mapped f [] = refl
count_mapped f (x ∷ xs) = omega (arith, count_more (λ (b : Bool). b) (f x) (map f xs), count_more f x xs, count_mapped f xs)

-- a line has as many wrong marks as differing bits
pub bits_wrong : (free : List Bool) (seen : List Seen) → row_bits (wrong_row free seen) ≡ differing_bits seen free
unfolding row_bits
bits_wrong free seen = count_listed (bit_at (wrong_row free seen)) (λ (b : Bool). b) false (wrong_row free seen) (λ k h. refl) ∙ count_mapped (λ x. differs x.0 x.1) (zip seen free)

pub failing_rows : (table : Answers) (lines : List Line) (m : LogMarks) → AreMarks table lines m → count_to (λ row. nat_lt 0 (row_bits (row_at m.wrong row))) (length m.wrong) ≡ length (failing table lines)
failing_rows table lines m marks =
    let test : ℕ → Bool = λ row. nat_lt 0 (row_bits (row_at m.wrong row)) in
    let free : ℕ → List Bool = λ k. answer_to table (logged_line lines k).0 0 in
    ap (count_to test) marks.wrongs.are.count_is
    ∙ (count_listed test (is_failing table) (0, []) lines (λ k h. ap (λ (row : List Bool). nat_lt 0 (row_bits row)) (marks.wrongs.begun k h) ∙ ap (nat_lt 0) (bits_wrong (free k) (logged_line lines k).1))
    ∙ sym (length-filter (is_failing table) lines))
