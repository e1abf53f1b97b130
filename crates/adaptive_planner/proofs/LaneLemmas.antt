-- The distinct answers to the vector of a lane, place by place.
use Rattle.std.proofs.Common.{◌≡◌, ◌≢◌, ◌∙◌, ℕ, zero, suc, ◌+◌, ◌<◌, refl, ap, sym, subst, arith, cond, inl, inr, get_or, take, drop, append_assoc, Contains}
use Rattle.std.specs.Prelude.{Bool, true, false, List, [], ◌∷◌, ◌++◌, length, slice_index, ◌⊎◌}
use Rattle.std.proofs.Math.Seq.{get_or-append_seam}
use Rattle.std.proofs.lemmas.List.{append-nil, take_more, take-append-drop, take_all, get_or_append_left, length-append}
use Rattle.std.proofs.lemmas.List.FromFn.{get_or-map-range_with_len, length-map-range_with_len}
use Rattle.net_model.specs.Circuit.{Circuit, IsCircuit}
use Rattle.net_model.specs.Answer.{IsAnswer}
use Rattle.answer_numbers.specs.AnswerNumbers.{AreLeadAnswers, IsDistinctPlace, lead_fault}
use Rattle.answer_numbers.specs.Distinct.{distinct_answers}
use Rattle.answer_numbers.proofs.DistinctLemmas.{is_among, among_is, distinct_push, in_distinct, distinct_apart}
use Rattle.class_refine.proofs.PatternTables.{answer_exists}
use Rattle.adaptive_planner.specs.Numbering.{AreRowNumbers}
use Rattle.adaptive_planner.specs.CircuitNumbers.{AnswerSo, answer_list, AreFirstPlaces}

-- ---- the first of the distinct answers

index_of : (xs : List (List Bool)) (x : List Bool) → Contains xs x → (k : ℕ) × (k < length xs) × (get_or xs k [] ≡ x)
index_of [] x (k, low, e) = absurd (omega (arith, low))
index_of (y ∷ xs) x (zero, low, e) = (0, omega arith, e)
index_of (y ∷ xs) x (suc k, low, e) = let later = index_of xs x (k, omega (arith, low), e) in (suc later.0, omega (arith, later.1), later.2)

front_by : (ds : List (List Bool)) (y : List Bool) (b : Bool) (k : ℕ) → k < length ds → (k < length (cond b ds (ds ++ y ∷ []))) × (get_or (cond b ds (ds ++ y ∷ [])) k [] ≡ get_or ds k [])
front_by ds y true k h = (h, refl)
front_by ds y false k h = (omega (arith, h, length-append ds (y ∷ [])), get_or_append_left ds (y ∷ []) [] k h)

front_push : (xs : List (List Bool)) (y : List Bool) (k : ℕ) → k < length (distinct_answers xs) → (k < length (distinct_answers (xs ++ y ∷ []))) × (get_or (distinct_answers (xs ++ y ∷ [])) k [] ≡ get_or (distinct_answers xs) k [])
front_push xs y k h =
    subst (λ (ds : List (List Bool)). (k < length ds) × (get_or ds k [] ≡ get_or (distinct_answers xs) k [])) (sym (distinct_push xs y)) (front_by (distinct_answers xs) y (is_among y xs) k h)

distinct_front : (ys xs : List (List Bool)) (k : ℕ) → k < length (distinct_answers xs) → (k < length (distinct_answers (xs ++ ys))) × (get_or (distinct_answers (xs ++ ys)) k [] ≡ get_or (distinct_answers xs) k [])
distinct_front [] xs k h = subst (λ (zs : List (List Bool)). (k < length (distinct_answers zs)) × (get_or (distinct_answers zs) k [] ≡ get_or (distinct_answers xs) k [])) (sym (append-nil xs)) (h, refl)
distinct_front (y ∷ ys) xs k h =
    let one = front_push xs y k h in
    let more = distinct_front ys (xs ++ y ∷ []) k one.0 in
    subst (λ (zs : List (List Bool)). (k < length (distinct_answers zs)) × (get_or (distinct_answers zs) k [] ≡ get_or (distinct_answers xs) k [])) (append_assoc xs (y ∷ []) ys) (more.0, more.1 ∙ one.1)

module _ (all : List (List Bool)) (place n : ℕ) (low : place < length all) (is : IsDistinctPlace all place n) where
  abbrev x : List Bool
  x = get_or all place []

  abbrev so_far : List (List Bool)
  so_far = distinct_answers (take place all)

  front : (k m : ℕ) → k < length (distinct_answers (take m all)) → (k < length (distinct_answers all)) × (get_or (distinct_answers all) k [] ≡ get_or (distinct_answers (take m all)) k [])
  front k m h =
      subst (λ (zs : List (List Bool)). (k < length (distinct_answers zs)) × (get_or (distinct_answers zs) k [] ≡ get_or (distinct_answers (take m all)) k [])) (take-append-drop m all)
      (distinct_front (drop m all) (take m all) k h)

  next_by : (b : Bool) → is_among x (take place all) ≡ b → distinct_answers (take (place + 1) all) ≡ cond b so_far (so_far ++ x ∷ [])
  next_by b e = ap distinct_answers (take_more all place [] low) ∙ (distinct_push (take place all) x ∙ ap (λ c. cond c so_far (so_far ++ x ∷ [])) e)

  -- the number of an answer that came before
  before : is_among x (take place all) ≡ true → n < length so_far
  before e =
      let at = index_of so_far x (in_distinct (take place all) x (among_is x (take place all) e)) in
      let whole = front at.0 place at.1 in
      let same : at.0 ≡ n = distinct_apart all at.0 n whole.0 is.within (whole.1 ∙ (at.2 ∙ sym is.own)) in
      omega (arith, at.1, same)

  -- the number of an answer that didn't come before
  here : is_among x (take place all) ≡ false → n ≡ length so_far
  here e =
      let next = next_by false e in
      let longer : length so_far < length (distinct_answers (take (place + 1) all)) = omega (arith, ap length next, length-append so_far (x ∷ [])) in
      let whole = front (length so_far) (place + 1) longer in
      distinct_apart all n (length so_far) is.within whole.0 (is.own ∙ sym (whole.1 ∙ (ap (λ (ds : List (List Bool)). get_or ds (length so_far) []) next ∙ get_or-append_seam so_far x [] [])))

  pub more_distinct : n ≡ length so_far → distinct_answers (take (place + 1) all) ≡ so_far ++ x ∷ []
  more_distinct new = by_case (is_among x (take place all)) refl
    where
      by_case : (b : Bool) → is_among x (take place all) ≡ b → distinct_answers (take (place + 1) all) ≡ so_far ++ x ∷ []
      by_case true e = absurd (omega (arith, new, before e))
      by_case false e = next_by false e

  pub same_distinct : n ≢ length so_far → distinct_answers (take (place + 1) all) ≡ so_far
  same_distinct old = by_case (is_among x (take place all)) refl
    where
      by_case : (b : Bool) → is_among x (take place all) ≡ b → distinct_answers (take (place + 1) all) ≡ so_far
      by_case true e = next_by true e
      by_case false e = absurd (old (here e))

last_or_below : (k n : ℕ) → k < n + 1 → (k ≡ n) ⊎ (k < n)
last_or_below k n low = grind (arith, low)

module _ (all : List (List Bool)) (place n : ℕ) (low : place < length all) (is : IsDistinctPlace all place n) (numbers : List ℕ) (answers : List (List Bool)) (count : length numbers ≡ place) (are : AreFirstPlaces all place numbers answers) where
  each_at : (k : ℕ) → (k ≡ place) ⊎ (k < place) → IsDistinctPlace all k (slice_index (numbers ++ n ∷ []) k)
  each_at k (inl e) =
      subst (λ j. IsDistinctPlace all j (slice_index (numbers ++ n ∷ []) j)) (sym e)
      (subst (IsDistinctPlace all place) (sym (ap (slice_index (numbers ++ n ∷ [])) (sym count) ∙ get_or-append_seam numbers n [] 0)) is)
  each_at k (inr h) = subst (IsDistinctPlace all k) (sym (get_or_append_left numbers (n ∷ []) 0 k (omega (arith, h, count)))) (are.each k h)

  pub place_new : n ≡ length answers → AreFirstPlaces all (place + 1) (numbers ++ n ∷ []) (answers ++ get_or all place [] ∷ [])
  place_new e = record {
    distinct = ap (λ (ds : List (List Bool)). ds ++ get_or all place [] ∷ []) are.distinct ∙ sym (more_distinct all place n low is (e ∙ ap length are.distinct));
    each = λ k h. each_at k (last_or_below k place h);
  }

  pub place_old : n ≢ length answers → AreFirstPlaces all (place + 1) (numbers ++ n ∷ []) answers
  place_old other = record {
    distinct = are.distinct ∙ sym (same_distinct all place n low is (λ e. other (e ∙ sym (ap length are.distinct))));
    each = λ k h. each_at k (last_or_below k place h);
  }

-- ---- what leads answer

module _ (c : Circuit) (leads : List ℕ) (v : List Bool) (answer : ℕ → List Bool) (so : AnswerSo c leads v answer) where
  abbrev all : List (List Bool)
  all = answer_list (length leads) answer

  pub list_long : length all ≡ length leads
  list_long = length-map-range_with_len answer 0 (length leads)

  pub list_at : (place : ℕ) → place < length leads → get_or all place [] ≡ answer place
  list_at place h = get_or-map-range_with_len answer 0 (length leads) place place [] h (omega arith)

  pub list_answers : AreLeadAnswers c leads v all
  list_answers = record { one_each = list_long; each = λ place h. subst (IsAnswer c (lead_fault c leads place) v) (sym (list_at place h)) (so place h) }

  pub row_numbers : (numbers : List ℕ) (answers : List (List Bool)) → length numbers ≡ length leads → AreFirstPlaces all (length leads) numbers answers → AreRowNumbers answer (length leads) numbers answers
  row_numbers numbers answers count are =
      let whole : answers ≡ distinct_answers all = are.distinct ∙ ap distinct_answers (take_all (length leads) all (omega (arith, list_long))) in
      record {
        one_each = count;
        within = λ place h. omega (arith, ap length whole, (are.each place h).within);
        own = λ place h. ap (λ (ds : List (List Bool)). get_or ds (slice_index numbers place) []) whole ∙ ((are.each place h).own ∙ list_at place h);
        same = λ one other h g alike.
            distinct_apart all (slice_index numbers one) (slice_index numbers other) (are.each one h).within (are.each other g).within
            ((are.each one h).own ∙ (list_at one h ∙ (alike ∙ sym ((are.each other g).own ∙ list_at other g))));
      }

-- there are such answers
module _ (c : Circuit) (is : IsCircuit c) (leads : List ℕ) (v : List Bool) where
  abbrev pub lead_answers : ℕ → List Bool
  lead_answers place = (answer_exists c is (lead_fault c leads place) v).0

  pub leads_answer_so : AnswerSo c leads v lead_answers
  leads_answer_so place h = (answer_exists c is (lead_fault c leads place) v).1
