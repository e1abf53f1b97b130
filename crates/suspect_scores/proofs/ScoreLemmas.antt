-- Numbers that answer alike have one score, and hit plus missed is the same for all numbers.
use Rattle.std.proofs.Common.{◌≡◌, ◌∙◌, ℕ, ◌+◌, ◌<◌, ◌≤◌, Bool, true, false, cond, not, List, [], ◌∷◌, length, refl, sym, ap, ap₂, subst, arith, inl, inr}
use Rattle.std.specs.Prelude.{sum_by, count_by, zip, ◌&&◌, ◌==◌, All, slice_index_or}
use Rattle.std.specs.Bool.{beq}
use Rattle.std.proofs.lemmas.Bool.{cases_lt, eqb-true}
use Rattle.std.proofs.lemmas.List.{get_or_past, get_or-map, length-map}
use Rattle.std.proofs.lemmas.List.Sums.{sum_by-cons}
use Rattle.std.proofs.lemmas.List.Elements.{All-head, All-tail}
use Rattle.net_model.specs.ClassTable.{ClassTable, class_table, class_at, representative}
use Rattle.net_model.proofs.OneAnswer.{one_rows}
use Rattle.net_model.proofs.Listed.{some_number}
use Rattle.class_refine.proofs.Pieces.{representative_lowest}
use Rattle.dict_rows.specs.AnswerTable.{Answers, answer_to}
use Rattle.table_dicts.proofs.FailLemmas.{is_table}
use Rattle.ranked_diag.specs.declared.partial.Seen.{Seen}
use Rattle.ranked_diag.specs.Seen.{differs, differing_bits}
use Rattle.ranked_diag.specs.PartialLog.{Line, patterns_of}
use Rattle.suspect_scores.specs.Scores.{SeenBits, is_hit, is_missed, is_false, told_of, wrong_bits, failing, explained_count, bits_where, hit_bits, missed_bits, false_bits}
use Rattle.suspect_scores.specs.Laws.{CircuitsAreClassed, HaveOneAnswer, AreAlikeIn, ScoreAlike, AlikeScoreAlike, HitAndMissedAddUp}

pub circuits_are_classed : CircuitsAreClassed
circuits_are_classed c patterns t table circuit of are = record {
  table_is = is_table c patterns table are;
  some = subst (λ n. 0 < n) (sym are.numbers) (some_number c);
  classes_are = of.table ∙ ap₂ (λ n rows. class_table n rows) (sym are.numbers) (one_rows c circuit patterns of.rows table.rows of.answers are.rows);
}

-- ---- classes

-- numbers that answer alike do so past the last pattern too
pub alike_past : (table : Answers) (m n : ℕ) → HaveOneAnswer table m n → (pattern : ℕ) → answer_to table pattern m ≡ answer_to table pattern n
alike_past table m n same pattern = elim (cases_lt pattern (length table.rows)) [
  | inl low ↦ same pattern low
  | inr past ↦
      let none = get_or_past table.rows pattern [] past in
      let nothing : (k : ℕ) → answer_to table pattern k ≡ [] = λ k. ap (λ (row : List (List Bool)). slice_index_or row k []) none ∙ get_or_past [] k [] (omega arith) in
      nothing m ∙ sym (nothing n)
]

module _ (t : ClassTable) (table : Answers) (alike : AreAlikeIn t table) where
  -- the representative of a number's class is of that class, and no higher
  pub lowest_is : (number : ℕ) → number < table.numbers → (representative t (class_at t number) ≤ number) × (class_at t (representative t (class_at t number)) ≡ class_at t number)
  lowest_is number h =
      let is = representative_lowest t number (omega (arith, h, alike.numbers)) in
      (is.within, eqb-true (class_at t (representative t (class_at t number))) (class_at t number) is.passes)

  -- so it answers as the number
  pub lowest_alike : (number : ℕ) → number < table.numbers → (pattern : ℕ) → answer_to table pattern (representative t (class_at t number)) ≡ answer_to table pattern number
  lowest_alike number h =
      let lowest = lowest_is number h in
      alike_past table (representative t (class_at t number)) number (alike.alike (representative t (class_at t number)) number (omega (arith, h, lowest.0)) h lowest.1)

-- ---- scores of numbers that answer alike

score_alike : (table : Answers) (lines : List Line) (m n : ℕ) → ((pattern : ℕ) → answer_to table pattern m ≡ answer_to table pattern n) → ScoreAlike table lines m n
unfolding explained_count hit_bits missed_bits false_bits
score_alike table lines m n same =
    let counted : (test : SeenBits → Bool) → bits_where table test lines m ≡ bits_where table test lines n = λ test i. sum_by (λ line. count_by test (zip line.1 (zip (answer_to table line.0 0) (same line.0 i)))) lines in
    record { explained = λ i. count_by (λ line. differing_bits line.1 (same line.0 i) == 0) (failing table lines); hit = counted is_hit; missed = counted is_missed; wrong = counted is_false }

pub alike_score_alike : AlikeScoreAlike
alike_score_alike t table lines number alike h = score_alike table lines number (representative t (class_at t number)) (λ pattern. sym (lowest_alike t table alike number h pattern))

-- ---- hit and missed

abbrev one_where : {X : Type 0} → (X → Bool) → X → ℕ
one_where p x = cond (p x) 1 0

pub count_more : {X : Type 0} (p : X → Bool) (x : X) (xs : List X) → count_by p (x ∷ xs) ≡ one_where p x + count_by p xs
count_more p x xs = sum_by-cons (one_where p) x xs

pub one_of_both : (wrong change : Bool) → ◌≡◌ {A = ℕ} (cond (wrong && change) 1 0 + cond (wrong && not change) 1 0) (cond wrong 1 0)
one_of_both true true = refl
one_of_both true false = refl
one_of_both false change = refl

pub hit_or_missed : (seen : List Seen) (free own : List Bool) → length own ≡ length free
    → count_by is_hit (zip seen (zip free own)) + count_by is_missed (zip seen (zip free own)) ≡ differing_bits seen free
hit_or_missed [] free own same = refl
hit_or_missed (s ∷ seen) [] [] same = refl
hit_or_missed (s ∷ seen) [] (o ∷ own) same = absurd (omega (arith, same))
hit_or_missed (s ∷ seen) (f ∷ free) [] same = absurd (omega (arith, same))
hit_or_missed (s ∷ seen) (f ∷ free) (o ∷ own) same =
    let rest = zip seen (zip free own) in
    let a = count_more is_hit (s, (f, o)) rest in
    let b = count_more is_missed (s, (f, o)) rest in
    let d = count_more (λ x. differs x.0 x.1) (s, f) (zip seen free) in
    omega (arith, a, b, d, one_of_both (differs s f) (not (beq o f)), hit_or_missed seen free own (omega (arith, same)))

sums_add : {X : Type 0} (f g h : X → ℕ) (xs : List X) → All (λ x. f x + g x ≡ h x) xs → sum_by f xs + sum_by g xs ≡ sum_by h xs
sums_add f g h [] all = refl
sums_add {X} f g h (x ∷ xs) all =
    let here = All-head (λ (x : X). f x + g x ≡ h x) x xs all in
    omega (arith, sum_by-cons f x xs, sum_by-cons g x xs, sum_by-cons h x xs, here, sums_add f g h xs (All-tail (λ (x : X). f x + g x ≡ h x) x xs all))

pub hit_and_missed_add_up : HitAndMissedAddUp
unfolding hit_bits missed_bits
hit_and_missed_add_up table lines number is partial h =
    sums_add (λ line. count_by is_hit (told_of table number line)) (λ line. count_by is_missed (told_of table number line)) (wrong_bits table) lines (λ k d low.
    let line : Line = slice_index_or lines k d in
    let named : slice_index_or (patterns_of lines) k 0 ≡ line.0 = get_or-map (λ (l : Line). l.0) lines k d 0 low in
    let inside : line.0 < length table.rows = subst (λ p. p < length table.rows) named (partial.order.below k 0 (omega (arith, low, length-map lines (λ (l : Line). l.0)))) in
    hit_or_missed line.1 (answer_to table line.0 0) (answer_to table line.0 number) (is.positions line.0 number inside h ∙ sym (is.positions line.0 0 inside (omega (arith, h)))))
