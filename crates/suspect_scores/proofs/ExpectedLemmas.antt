-- The text of the expected log, line by line.
use Rattle.std.proofs.Common.{◌≡◌, ◌∙◌, ℕ, ◌+◌, ◌<◌, [], ◌∷◌, ◌++◌, length, take, get_or, sym, ap, arith}
use Rattle.std.proofs.lemmas.List.{take_more, length-take-le, append-nil, ext_get_or}
use Rattle.dict_rows.specs.AnswerTable.{Answers, answer_to}
use Rattle.dict_rows.specs.Entries.{answers_of}
use Rattle.dict_rows.proofs.EntryLemmas.{length-answers, answer_at}
use Rattle.diagnose.specs.Lines.{lines_from}
use Rattle.diagnose.specs.LogText.{log_line}
use Rattle.diagnose.proofs.LineLemmas.{lines_more}

pub text_more : (t : Answers) (pattern : ℕ) → pattern < length t.rows
    → lines_from log_line 0 (take (pattern + 1) (answers_of t.rows 0)) ≡ lines_from log_line 0 (take pattern (answers_of t.rows 0)) ++ (log_line pattern (answer_to t pattern 0) ++ 10 ∷ [])
text_more t pattern h =
    let all = answers_of t.rows 0 in
    let inside : pattern < length all = omega (arith, h, length-answers t 0) in
    let row : get_or all pattern [] ≡ answer_to t pattern 0 = answer_at t pattern 0 h in
    let place : pattern ≡ 0 + length (take pattern all) = omega (arith, length-take-le pattern all (omega (arith, inside))) in
    ap (lines_from log_line 0) (take_more all pattern [] inside ∙ (λ i. take pattern all ++ row i ∷ []))
    ∙ (sym (append-nil (lines_from log_line 0 (take pattern all ++ answer_to t pattern 0 ∷ []))) ∙ lines_more log_line 0 (take pattern all) (answer_to t pattern 0) pattern [] place)

-- tables with the same answers of number 0
pub same_free : (t other : Answers) → length t.rows ≡ length other.rows → ((pattern : ℕ) → pattern < length t.rows → answer_to t pattern 0 ≡ answer_to other pattern 0) → answers_of t.rows 0 ≡ answers_of other.rows 0
same_free t other many same =
    ext_get_or [] (answers_of t.rows 0) (answers_of other.rows 0) (length-answers t 0 ∙ (many ∙ sym (length-answers other 0)))
    (λ k h. let low : k < length t.rows = omega (arith, h, length-answers t 0) in answer_at t k 0 low ∙ (same k low ∙ sym (answer_at other k 0 (omega (arith, low, many)))))
