-- The patterns of a log, and the answers to them.
use Rattle.std.proofs.Common.{◌≡◌, ◌∙◌, ℕ, zero, suc, ◌+◌, ◌<◌, ◌≤◌, Bool, List, [], ◌∷◌, ◌++◌, length, map, take, get_or, sym, ap, subst, arith}
use Rattle.std.specs.Prelude.{All, Some, slice_get}
use Rattle.std.specs.List.{AllZip}
use Rattle.std.specs.List.Sorted.{IsStrictlyIncreasing}
use Rattle.std.proofs.lemmas.List.{length-map, get_or-map, get_or_default, map-append, take_more}
use Rattle.std.proofs.lemmas.List.Elements.{All-head, All-tail}
use Rattle.net_model.specs.Circuit.{Circuit}
use Rattle.class_refine.proofs.Ranges.{zip_at}
use Rattle.net_model.specs.PatternRows.{IsAnswerRow}
use Rattle.table_dicts.specs.declared.setting.Setting.{Setting}
use Rattle.dict_rows.specs.AnswerTable.{Answers, HasSizes, AreAnswerable, AreAnswers, answer_to}
use Rattle.ranked_diag.specs.PartialLog.{Line, AreInOrder, ArePartial, patterns_of}
use Rattle.suspect_scores.specs.Marks.{logged_line, logged_vectors, AreLogged}
use Rattle.suspect_scores.proofs.MarkLemmas.{got_line}

pub vectors_more : (patterns : List (List Bool)) (lines : List Line) (k : ℕ) (line : Line) → k < length lines → slice_get lines k ≡ Some line
    → (vector d : List Bool) → line.0 < length patterns → vector ≡ get_or patterns line.0 d → logged_vectors patterns (take (k + 1) lines) ≡ logged_vectors patterns (take k lines) ++ vector ∷ []
vectors_more patterns lines k line h got vector d inside is =
    let at : Line → List Bool = λ l. get_or patterns l.0 [] in
    let same : get_or patterns line.0 [] ≡ vector = get_or_default patterns line.0 [] d inside ∙ sym is in
    ap (map at) (take_more lines k (0, []) h)
    ∙ (map-append at (take k lines) (logged_line lines k ∷ []) ∙ ((λ i. map at (take k lines) ++ at (got_line lines k line got i) ∷ []) ∙ (λ i. map at (take k lines) ++ same i ∷ [])))

-- ---- lines in order

rising : (xs : List ℕ) → IsStrictlyIncreasing xs → (k : ℕ) → k < length xs → k ≤ get_or xs k 0
rising xs up zero h = omega arith
rising xs up (suc k) h =
    let before = rising xs up k (omega (arith, h)) in
    let next : k + 1 ≡ suc k = omega arith in
    let step : get_or xs k 0 < get_or xs (suc k) 0 = subst (λ n. get_or xs k 0 < get_or xs n 0) next (up k (omega (arith, h))) in
    omega (arith, before, step)

few_below : (n : ℕ) (xs : List ℕ) → AreInOrder n xs → length xs ≤ n
few_below n [] are = omega arith
few_below n (x ∷ xs) are =
    let last : length xs < length (x ∷ xs) = omega arith in
    omega (arith, rising (x ∷ xs) are.ascend (length xs) last, are.below (length xs) 0 last)

pub few_lines : (patterns positions : ℕ) (lines : List Line) → ArePartial patterns positions lines → length lines ≤ patterns
few_lines patterns positions lines are = omega (arith, few_below patterns (patterns_of lines) are.order, length-map lines (λ (l : Line). l.0))

pub lines_inside : (patterns positions : ℕ) (lines : List Line) → ArePartial patterns positions lines → All (λ line. line.0 < patterns) lines
lines_inside patterns positions lines are = λ k d h.
    subst (λ n. n < patterns) (get_or-map (λ (l : Line). l.0) lines k d 0 h) (are.order.below k 0 (omega (arith, h, length-map lines (λ (l : Line). l.0))))

pub vectors_answerable : (c : Circuit) (s : Setting) (lines : List Line) (vectors : List (List Bool)) → AreAnswerable c s.patterns.now → All (λ line. line.0 < length s.patterns.now) lines → length lines ≤ length s.patterns.now
    → vectors ≡ logged_vectors s.patterns.now lines → AreAnswerable c vectors
vectors_answerable c s lines vectors is inside few are = subst (AreAnswerable c) (sym are) (record {
  widths = λ k d h.
      let at : Line → List Bool = λ l. get_or s.patterns.now l.0 [] in
      let below : k < length lines = omega (arith, h, length-map lines at) in
      ap length (get_or-map at lines k (0, []) d below) ∙ is.widths (logged_line lines k).0 [] (inside k (0, []) below);
  few = omega (arith, is.few, few, length-map lines (λ (l : Line). get_or s.patterns.now l.0 []));
})

-- ---- answers

module _ (c : Circuit) (patterns : List (List Bool)) (table : Answers) (are : AreAnswers c patterns table) (lines : List Line) (inside : All (λ line. line.0 < length patterns) lines) where
  -- the answers to the patterns of the lines
  abbrev pub logged_table : Answers
  logged_table = record { numbers = table.numbers; positions = table.positions; rows = map (λ (l : Line). get_or table.rows l.0 []) lines }

  pub logged_are : AreAnswers c (logged_vectors patterns lines) logged_table
  logged_are = record { numbers = are.numbers; positions = are.positions; rows = rows_are lines inside }
    where
      rows_are : (some : List Line) → All (λ line. line.0 < length patterns) some → AllZip (IsAnswerRow c) (map (λ (l : Line). get_or patterns l.0 []) some) (map (λ (l : Line). get_or table.rows l.0 []) some)
      rows_are [] all = tt
      rows_are (l ∷ some) all =
          (zip_at (IsAnswerRow c) patterns table.rows l.0 [] [] are.rows (All-head (λ (line : Line). line.0 < length patterns) l some all), rows_are some (All-tail (λ (line : Line). line.0 < length patterns) l some all))

  pub logged_answer : (k number : ℕ) → k < length lines → answer_to logged_table k number ≡ answer_to table (logged_line lines k).0 number
  logged_answer k number h = ap (λ (row : List (List Bool)). get_or row number []) (get_or-map (λ (l : Line). get_or table.rows l.0 []) lines k (0, []) [] h)

abbrev pub AreAllAnswers : Circuit → List (List Bool) → List ℕ → Answers → Type 0
AreAllAnswers c vectors numbers answers = (t : Answers) → AreAnswers c vectors t → (pattern place : ℕ) → pattern < length vectors → place < length numbers → answer_to answers pattern place ≡ answer_to t pattern (get_or numbers place 0)

pub are_logged : (c : Circuit) (patterns vectors : List (List Bool)) (lines : List Line) (table : Answers) (numbers : List ℕ) (answers : Answers) → AreAnswers c patterns table → All (λ line. line.0 < length patterns) lines → vectors ≡ logged_vectors patterns lines
    → HasSizes answers (length vectors) (length numbers) (length c.positions) → AreAllAnswers c vectors numbers answers → AreLogged table lines numbers answers
are_logged c patterns vectors lines table numbers answers are inside same sizes all =
    let count : length vectors ≡ length lines = ap length same ∙ length-map lines (λ (l : Line). get_or patterns l.0 []) in
    record {
      sizes = record { patterns_are = sizes.patterns_are ∙ count; numbers_are = sizes.numbers_are; positions_are = sizes.positions_are ∙ sym are.positions };
      each = λ k place hk hp.
          all (logged_table c patterns table are lines inside) (subst (λ vs. AreAnswers c vs (logged_table c patterns table are lines inside)) (sym same) (logged_are c patterns table are lines inside)) k place (omega (arith, hk, count)) hp
          ∙ logged_answer c patterns table are lines inside k (get_or numbers place 0) hk;
    }

pub pattern_inside : (patterns : List (List Bool)) (lines : List Line) (k : ℕ) (line : Line) → k < length lines → slice_get lines k ≡ Some line → All (λ l. l.0 < length patterns) lines → line.0 < length patterns
pattern_inside patterns lines k line h got all = subst (λ (l : Line). l.0 < length patterns) (got_line lines k line got) (all k (0, []) h)
