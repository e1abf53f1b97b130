-- Rows that are chosen one after another cover the failing lines.
use Rattle.std.proofs.Common.{◌≡◌, ◌∙◌, ℕ, zero, suc, ◌+◌, ◌<◌, ◌≤◌, ◌⊎◌, Bool, true, false, not, cond, List, [], ◌∷◌, ◌++◌, length, get_or, refl, sym, ap, subst, append_assoc, arith, inl, inr}
use Rattle.std.specs.Prelude.{count_by, filter, nat_lt, ◌&&◌, ◌||◌, ◌==◌, if◌then◌else◌}
use Rattle.std.specs.List.{range_with_len}
use Rattle.std.proofs.lemmas.Bool.{cases_eq, ltb-true, ltb-false, eqb-true, eq-eqb}
use Rattle.std.proofs.lemmas.List.{append-nil, get_or-map, get_or_default}
use Rattle.std.proofs.lemmas.List.Sums.{sum_by-cons}
use Rattle.std.proofs.lemmas.List.Elements.{Contains-get_or}
use Rattle.net_model.specs.Answer.{bit_at}
use Rattle.net_model.specs.ClassTable.{ClassTable}
use Rattle.net_model.specs.Rows.{row_at}
use Rattle.dict_rows.specs.AnswerTable.{Answers}
use Rattle.ranked_diag.specs.PartialLog.{Line}
use Rattle.net_model.proofs.Ranges.{sum_by-range_more}
use Rattle.suspect_scores.specs.declared.choices.Choice.{Choice}
use Rattle.suspect_scores.specs.declared.choosing.Best.{Best}
use Rattle.suspect_scores.specs.Scores.{is_failing, explains, explained_count}
use Rattle.suspect_scores.specs.Scored.{count_to}
use Rattle.suspect_scores.specs.Marks.{logged_line}
use Rattle.suspect_scores.specs.Listed.{representatives}
use Rattle.suspect_scores.specs.Covering.{Covers, IsCover, left_by}
use Rattle.suspect_scores.specs.Chosen.{explained_by, left_count, AreAllLeft, IsWithout, count_at, IsBestOf, AreChosenFrom}
use Rattle.suspect_scores.proofs.ScoreLemmas.{count_more, one_of_both}
use Rattle.suspect_scores.proofs.RangeSums.{one_of, count_shifted}

-- ---- what is left gets less

counts_split : (b e : ℕ → Bool) (n : ℕ) → count_to (λ k. b k && e k) n + count_to (λ k. b k && not (e k)) n ≡ count_to b n
counts_split b e zero = refl
counts_split b e (suc n) =
    let next : suc n ≡ n + 1 = omega arith in
    let more : (p : ℕ → Bool) → count_to p (suc n) ≡ count_to p n + one_of p n = λ p. ap (count_to p) next ∙ sum_by-range_more (one_of p) n in
    omega (arith, more (λ k. b k && e k), more (λ k. b k && not (e k)), more b, one_of_both (b n) (e n), counts_split b e n)

pub fewer_left : (row old new : List Bool) → IsWithout row old new → 0 < left_count row old → count_to (bit_at new) (length new) < count_to (bit_at old) (length old)
unfolding left_count
fewer_left row old new is some =
    let n = length old in
    let same : count_to (bit_at new) (length new) ≡ count_to (λ k. bit_at old k && not (bit_at row k)) n =
    ap (count_to (bit_at new)) is.many ∙ count_shifted (bit_at new) (λ k. bit_at old k && not (bit_at row k)) 0 0 n (λ k h. let start : 0 + k ≡ k = omega arith in ap (bit_at new) start ∙ (is.each k h ∙ ap (λ (j : ℕ). bit_at old j && not (bit_at row j)) (sym start))) in
    omega (arith, same, counts_split (bit_at old) (bit_at row) n, some)

-- ---- one row more

better_says : (x y z : Bool) → (x || (y && z)) ≡ true → (x ≡ true) ⊎ ((y ≡ true) × (z ≡ true))
better_says true y z e = inl refl
better_says false true true e = inr (refl, refl)
better_says false true false e = let clash : ◌≡◌ {A = Bool} false true = e in absurd (cc)
better_says false false z e = let clash : ◌≡◌ {A = Bool} false true = e in absurd (cc)

better_not : (x y z : Bool) → (x || (y && z)) ≡ false → (x ≡ false) × (y ≡ true → z ≡ false)
better_not true y z e = let clash : ◌≡◌ {A = Bool} true false = e in absurd (cc)
better_not false true z e = (refl, λ same. e)
better_not false false z e = (refl, λ same. let clash : ◌≡◌ {A = Bool} false true = same in absurd (cc))

module _ (rows : List (List Bool)) (numbers : List ℕ) (left : List Bool) where
  pub best_more : (place : ℕ) (best : Best) (count : ℕ) (is_better : Bool) → IsBestOf rows numbers left place best → count ≡ count_at rows numbers left place
      → is_better ≡ (nat_lt best.count count || (count == best.count && nat_lt (get_or numbers place 0) (get_or numbers best.place 0))) → IsBestOf rows numbers left (place + 1) (if is_better then record { place = place; count = count } else best)
  best_more place best count true was is told = record {
    most = λ p h. elim (cases_eq p place) [
      | inl same ↦ let own : count_at rows numbers left p ≡ count = ap (count_at rows numbers left) same ∙ sym is in omega (arith, own)
      | inr ne ↦ omega (arith, was.most p (omega (arith, h, ne)), least)
    ];
    some = λ pos. record {
      within = omega arith;
      own = sym is;
      lowest = λ p h same. elim (cases_eq p place) [
        | inl e ↦ let own : get_or numbers p 0 ≡ get_or numbers place 0 = ap (λ (j : ℕ). get_or numbers j 0) e in omega (arith, own)
        | inr ne ↦ behind pos p (omega (arith, h, ne)) same
      ];
    };
  }
    where
      says : (best.count < count) ⊎ ((count ≡ best.count) × (get_or numbers place 0 < get_or numbers best.place 0))
      says = elim (better_says (nat_lt best.count count) (count == best.count) (nat_lt (get_or numbers place 0) (get_or numbers best.place 0)) (sym told)) [
        | inl lt ↦ inl (ltb-true best.count count lt)
        | inr both ↦ inr (eqb-true count best.count both.0, ltb-true (get_or numbers place 0) (get_or numbers best.place 0) both.1)
      ]

      least : best.count ≤ count
      least = elim says [ inl lt ↦ omega (arith, lt) | inr both ↦ omega (arith, both.0) ]

      behind : 0 < count → (p : ℕ) → p < place → count_at rows numbers left p ≡ count → get_or numbers place 0 ≤ get_or numbers p 0
      behind pos p h same = elim says [
        | inl lt ↦ absurd (omega (arith, was.most p h, same, lt))
        | inr both ↦ let high = was.some (omega (arith, pos, both.0)) in omega (arith, high.lowest p h (same ∙ both.0), both.1)
      ]
  best_more place best count false was is told = record {
    most = λ p h. elim (cases_eq p place) [
      | inl same ↦ let own : count_at rows numbers left p ≡ count = ap (count_at rows numbers left) same ∙ sym is in omega (arith, own, low)
      | inr ne ↦ was.most p (omega (arith, h, ne))
    ];
    some = λ pos.
        let high = was.some pos in
        record {
          within = omega (arith, high.within);
          own = high.own;
          lowest = λ p h same. elim (cases_eq p place) [
            | inl e ↦
                let own : get_or numbers p 0 ≡ get_or numbers place 0 = ap (λ (j : ℕ). get_or numbers j 0) e in
                let tie : count ≡ best.count = is ∙ (ap (count_at rows numbers left) (sym e) ∙ same) in
                omega (arith, own, ltb-false (get_or numbers place 0) (get_or numbers best.place 0) (says.1 (eq-eqb count best.count tie)))
            | inr ne ↦ high.lowest p (omega (arith, h, ne)) same
          ];
        };
  }
    where
      says : (nat_lt best.count count ≡ false) × ((count == best.count) ≡ true → nat_lt (get_or numbers place 0) (get_or numbers best.place 0) ≡ false)
      says = better_not (nat_lt best.count count) (count == best.count) (nat_lt (get_or numbers place 0) (get_or numbers best.place 0)) (sym told)

      low : count ≤ best.count
      low = ltb-false best.count count says.0

-- ---- loops

pub one_small : (b : Bool) → cond {A = ℕ} b 1 0 ≤ 1
one_small true = omega arith
one_small false = omega arith

pub better_low : (b : Bool) (place count : ℕ) (best : Best) → best.place ≤ place → (if b then record { place = place; count = count } else best).place ≤ place + 1
better_low true place count best low = omega arith
better_low false place count best low = omega (arith, low)

-- The first `done` lines are left.
pub record AreLeftTo (lines done : ℕ) (left : List Bool) : Type 0 where
  pub many : length left ≡ lines
  pub each : (k : ℕ) → k < done → bit_at left k ≡ true

-- The lines that a row has are left out of the first `done` lines.
pub record IsWithoutTo (row old new : List Bool) (done : ℕ) : Type 0 where
  pub many : length new ≡ length old
  pub each : (k : ℕ) → k < done → bit_at new k ≡ (bit_at old k && not (bit_at row k))
  pub others : (k : ℕ) → done ≤ k → bit_at new k ≡ bit_at old k

-- It is the best of the first `end` rows, at a place of at most `end`.
pub record IsBestTo (rows : List (List Bool)) (numbers : List ℕ) (left : List Bool) (end : ℕ) (best : Best) : Type 0 where
  pub is : IsBestOf rows numbers left end best
  pub low : best.place ≤ end

-- Whatever is chosen next, these are chosen before it.
pub record IsChoosing (rows : List (List Bool)) (numbers : List ℕ) (lines : ℕ) (left : List Bool) (best : Best) (choices : List Choice) : Type 0 where
  pub many : length left ≡ lines
  pub is : IsBestOf rows numbers left (length numbers) best
  pub first : List Bool
  pub all : AreAllLeft lines first
  pub before : (rest : List Choice) → AreChosenFrom rows numbers left rest → AreChosenFrom rows numbers first (choices ++ rest)

pub chosen_more : (rows : List (List Bool)) (numbers : List ℕ) (lines : ℕ) (left next : List Bool) (best new : Best) (choices : List Choice) → IsChoosing rows numbers lines left best choices → 0 < best.count → IsWithout (row_at rows best.place) left next → IsBestOf rows numbers next (length numbers) new
    → IsChoosing rows numbers lines next new (choices ++ record { number = get_or numbers best.place 0; explained = best.count } ∷ [])
chosen_more rows numbers lines left next best new choices so_far some without is = record {
  many = without.many ∙ so_far.many;
  is = is;
  first = so_far.first;
  all = so_far.all;
  before = λ rest chosen.
      let choice : Choice = record { number = get_or numbers best.place 0; explained = best.count } in
      subst (λ (all : List Choice). AreChosenFrom rows numbers so_far.first all) (sym (append_assoc choices (choice ∷ []) rest)) (so_far.before (choice ∷ rest) (best, next, so_far.is, some, refl, without, chosen));
}

pub chosen_all : (rows : List (List Bool)) (numbers : List ℕ) (lines : ℕ) (left : List Bool) (best : Best) (choices : List Choice) → IsChoosing rows numbers lines left best choices → best.count ≡ 0 → (first : List Bool) × AreAllLeft lines first × AreChosenFrom rows numbers first choices
chosen_all rows numbers lines left best choices so_far none = (
  so_far.first,
  so_far.all,
  subst (λ (all : List Choice). AreChosenFrom rows numbers so_far.first all) (append-nil choices) (so_far.before [] (λ p h. omega (arith, so_far.is.most p h, none))),
)

-- ---- lines that are left

-- the lines that are marked and pass
abbrev pub kept : (ℕ → Bool) → (Line → Bool) → List Line → List Line
kept f p [] = []
kept f p (l ∷ lines) = cond (f 0 && p l) (l ∷ kept (λ k. f (suc k)) p lines) (kept (λ k. f (suc k)) p lines)

count_first : (p : ℕ → Bool) (n : ℕ) → count_to p (suc n) ≡ one_of p 0 + count_to (λ k. p (suc k)) n
count_first p n =
    let shifted = count_shifted p (λ k. p (suc k)) 1 0 n (λ k h. let at : 1 + k ≡ suc (0 + k) = omega arith in ap p at) in
    omega (arith, sum_by-cons (one_of p) 0 (range_with_len 1 n), shifted)

kept_count : (f e : ℕ → Bool) (p q : Line → Bool) (lines : List Line) → ((k : ℕ) → k < length lines → e k ≡ (p (logged_line lines k) && q (logged_line lines k))) → count_to (λ k. f k && e k) (length lines) ≡ count_by q (kept f p lines)
kept_count f e p q [] same = refl
kept_count f e p q (l ∷ lines) same = by (kept_count (λ k. f (suc k)) (λ k. e (suc k)) p q lines (λ k h. same (suc k) (omega (arith, h)))) (f 0) (p l) refl refl
  where
    by : count_to (λ k. f (suc k) && e (suc k)) (length lines) ≡ count_by q (kept (λ k. f (suc k)) p lines) → (a b : Bool) → f 0 ≡ a → p l ≡ b → count_to (λ k. f k && e k) (length (l ∷ lines)) ≡ count_by q (kept f p (l ∷ lines))
    by so true true fa pb =
        let one : one_of (λ k. f k && e k) 0 ≡ one_of q l = (λ i. cond {A = ℕ} (fa i && same 0 (omega arith) i) 1 0) ∙ ap (λ (b : Bool). cond {A = ℕ} (b && q l) 1 0) pb in
        let are : kept f p (l ∷ lines) ≡ l ∷ kept (λ k. f (suc k)) p lines = λ i. cond (fa i && pb i) (l ∷ kept (λ k. f (suc k)) p lines) (kept (λ k. f (suc k)) p lines) in
        omega (arith, count_first (λ k. f k && e k) (length lines), one, so, ap (count_by q) are, count_more q l (kept (λ k. f (suc k)) p lines))
    by so true false fa pb =
        let one : one_of (λ k. f k && e k) 0 ≡ 0 = (λ i. cond {A = ℕ} (fa i && same 0 (omega arith) i) 1 0) ∙ ap (λ (b : Bool). cond {A = ℕ} (b && q l) 1 0) pb in
        let are : kept f p (l ∷ lines) ≡ kept (λ k. f (suc k)) p lines = λ i. cond (fa i && pb i) (l ∷ kept (λ k. f (suc k)) p lines) (kept (λ k. f (suc k)) p lines) in
        omega (arith, count_first (λ k. f k && e k) (length lines), one, so, ap (count_by q) are)
    by so false b fa pb =
        let one : one_of (λ k. f k && e k) 0 ≡ 0 = λ i. cond {A = ℕ} (fa i && e 0) 1 0 in
        let are : kept f p (l ∷ lines) ≡ kept (λ k. f (suc k)) p lines = λ i. cond (fa i && p l) (l ∷ kept (λ k. f (suc k)) p lines) (kept (λ k. f (suc k)) p lines) in
        omega (arith, count_first (λ k. f k && e k) (length lines), one, so, ap (count_by q) are)

kept_without : (f g e : ℕ → Bool) (p q : Line → Bool) (lines : List Line) → ((k : ℕ) → k < length lines → e k ≡ (p (logged_line lines k) && q (logged_line lines k))) → ((k : ℕ) → k < length lines → g k ≡ (f k && not (e k)))
    → kept g p lines ≡ filter (λ l. not (q l)) (kept f p lines)
kept_without f g e p q [] same without = refl
kept_without f g e p q (l ∷ lines) same without =
    by (kept_without (λ k. f (suc k)) (λ k. g (suc k)) (λ k. e (suc k)) p q lines (λ k h. same (suc k) (omega (arith, h))) (λ k h. without (suc k) (omega (arith, h)))) (f 0) (p l) (q l) refl refl refl
  where
    cases : (a b c : Bool) (K : List Line) → q l ≡ c → cond ((a && not (b && c)) && b) (l ∷ filter (λ x. not (q x)) K) (filter (λ x. not (q x)) K) ≡ filter (λ x. not (q x)) (cond (a && b) (l ∷ K) K)
    cases true true true K qc = sym (λ i. cond (not (qc i)) (l ∷ filter (λ x. not (q x)) K) (filter (λ x. not (q x)) K))
    cases true true false K qc = sym (λ i. cond (not (qc i)) (l ∷ filter (λ x. not (q x)) K) (filter (λ x. not (q x)) K))
    cases true false c K qc = refl
    cases false b true K qc = refl
    cases false b false K qc = refl

    by : kept (λ k. g (suc k)) p lines ≡ filter (λ x. not (q x)) (kept (λ k. f (suc k)) p lines) → (a b c : Bool) → f 0 ≡ a → p l ≡ b → q l ≡ c → kept g p (l ∷ lines) ≡ filter (λ x. not (q x)) (kept f p (l ∷ lines))
    by so a b c fa pb qc =
        let g0 : g 0 ≡ (a && not (b && c)) = without 0 (omega arith) ∙ ((λ i. f 0 && not (same 0 (omega arith) i)) ∙ (λ i. fa i && not (pb i && qc i))) in
        (λ i. cond (g0 i && pb i) (l ∷ so i) (so i))
        ∙ (cases a b c (kept (λ k. f (suc k)) p lines) qc ∙ sym (λ i. filter (λ x. not (q x)) (cond (fa i && pb i) (l ∷ kept (λ k. f (suc k)) p lines) (kept (λ k. f (suc k)) p lines))))

kept_all : (f : ℕ → Bool) (p : Line → Bool) (lines : List Line) → ((k : ℕ) → k < length lines → f k ≡ true) → kept f p lines ≡ filter p lines
kept_all f p [] all = refl
kept_all f p (l ∷ lines) all =
    let rest = kept_all (λ k. f (suc k)) p lines (λ k h. all (suc k) (omega (arith, h))) in
    λ i. cond (all 0 (omega arith) i && p l) (l ∷ rest i) (rest i)

-- ---- the cover

module _ (t : ClassTable) (table : Answers) (lines : List Line) (rows : List (List Bool)) (are : (p : ℕ) → p < length (representatives t) → row_at rows p ≡ explained_by table lines (get_or (representatives t) p 0)) where
  abbrev number : ℕ → ℕ
  number p = get_or (representatives t) p 0

  abbrev those : List Bool → List Line
  those left = kept (bit_at left) (is_failing table) lines

  bit_is : (p : ℕ) → p < length (representatives t) → (k : ℕ) → k < length lines → bit_at (row_at rows p) k ≡ (is_failing table (logged_line lines k) && explains table (number p) (logged_line lines k))
  bit_is p hp k h = ap (λ (row : List Bool). bit_at row k) (are p hp) ∙ get_or-map (λ (line : Line). is_failing table line && explains table (number p) line) lines k (0, []) false h

  count_is : (left : List Bool) → length left ≡ length lines → (p : ℕ) → p < length (representatives t) → count_at rows (representatives t) left p ≡ explained_count table (number p) (those left)
  unfolding left_count explained_count
  count_is left many p hp = ap (count_to (λ k. bit_at left k && bit_at (row_at rows p) k)) many ∙ kept_count (bit_at left) (bit_at (row_at rows p)) (is_failing table) (explains table (number p)) lines (bit_is p hp)

  left_is : (left next : List Bool) → length left ≡ length lines → (p : ℕ) → p < length (representatives t) → IsWithout (row_at rows p) left next → those next ≡ left_by t table (number p) (those left)
  left_is left next many p hp is = kept_without (bit_at left) (bit_at next) (bit_at (row_at rows p)) (is_failing table) (explains table (number p)) lines (bit_is p hp) (λ k h. is.each k (omega (arith, h, many)))

  covers : (left : List Bool) (choices : List Choice) → length left ≡ length lines → AreChosenFrom rows (representatives t) left choices → Covers t table (those left) choices
  covers left [] many none = λ k d h. ap (λ (n : ℕ). explained_count table n (those left)) (get_or_default (representatives t) k d 0 h) ∙ (sym (count_is left many k h) ∙ none k h)
  covers left (choice ∷ choices) many (best, next, is, pos, same, without, rest) =
      let high = is.some pos in
      let place = best.place in
      let count : best.count ≡ explained_count table (number place) (those left) = sym high.own ∙ count_is left many place high.within in
      let all = covers next choices (without.many ∙ many) rest in
      subst (λ (c : Choice). Covers t table (those left) (c ∷ choices)) (sym same) (
        record {
          is = Contains-get_or (representatives t) place 0 high.within;
          most = λ k d h. let own = ap (λ (n : ℕ). explained_count table n (those left)) (get_or_default (representatives t) k d 0 h) in omega (arith, own, count_is left many k h, is.most k h, count);
          lowest = λ k d h e.
              let own = get_or_default (representatives t) k d 0 h in
              let counted = ap (λ (n : ℕ). explained_count table n (those left)) own in
              let low = high.lowest k h (count_is left many k h ∙ (sym counted ∙ (e ∙ sym count))) in
              omega (arith, low, own);
        },
        pos,
        count,
        subst (λ (ls : List Line). Covers t table ls choices) (left_is left next many place high.within without) all,
      )

  pub chosen_cover : (left : List Bool) (choices : List Choice) → AreAllLeft (length lines) left → AreChosenFrom rows (representatives t) left choices → IsCover t table lines choices
  chosen_cover left choices all chosen = subst (λ (ls : List Line). Covers t table ls choices) (kept_all (bit_at left) (is_failing table) lines all.each) (covers left choices all.many chosen)
