-- No row in place of a chosen baseline keeps more pairs apart.
use Rattle.std.proofs.Common.{◌≡◌, ◌∙◌, ℕ, zero, suc, ◌+◌, ◌*◌, ◌<◌, ◌≤◌, Bool, false, not, cond, ltb, List, [], ◌∷◌, length, get_or, set, map, find, fold, Option, Some, None, refl, sym, ap, subst, arith, inl, inr, All, Contains}
use Rattle.std.specs.Option.{option_map_or}
use Rattle.std.specs.List.{range_with_len, enumerate_from, list_any}
use Rattle.std.proofs.lemmas.Bool.{cases_Bool, cases_lt, cases_eq, cond_both, ltb-false, not-true, false_from_ne_true}
use Rattle.std.proofs.lemmas.Option.{none-some, same_Some}
use Rattle.std.proofs.lemmas.List.{length_push, length-map, length-set, set_past, get_or_default, get_or-set_same, get_or-set_other}
use Rattle.std.proofs.lemmas.List.Elements.{All-head, All-tail, All-map}
use Rattle.std.proofs.lemmas.List.FromFn.{length-enumerate_from, get_or-enumerate_from}
use Rattle.net_model.specs.ClassTable.{ClassTable, class_count, representative, same_bits}
use Rattle.net_model.proofs.Elements.{none_in, true_false, first_or_later, any_from, passing, Contains-map, Contains-flat_map}
use Rattle.net_model.proofs.Listed.{All-flat_map}
use Rattle.class_refine.proofs.Ranges.{range-contains}
use Rattle.dict_rows.specs.AnswerTable.{answer_in}
use Rattle.table_dicts.specs.Apart.{has_apart}
use Rattle.dict_rows.specs.Entries.{same_diff_entry, free_baselines}
use Rattle.dict_rows.proofs.EntryLemmas.{same_bits-Decides}
use Rattle.samediff_dict.specs.Chosen.{candidates, pairs_apart, with_next, greedy_baselines, better_baselines, replacements, improvement, improved_baselines, chosen_baselines}
use Rattle.samediff_dict.specs.Numbered.{class_answers}
use Rattle.samediff_dict.specs.Laws.{NoRowIsBetter}
use Rattle.samediff_dict.proofs.PairLemmas.{pairs-le}
use Rattle.samediff_dict.proofs.ImproveLemmas.{pairs_apart_are, none_left}
use Rattle.answer_numbers.proofs.DistinctLemmas.{in_distinct}
use Rattle.samediff_dict.specs.Numbered.{answers_base, AlikeFrom}
use Rattle.samediff_dict.proofs.ToldLemmas.{same_entries}

-- ---- what `find` found, and what it passed over

found_holds : {X : Type 0} (P : X → Type 0) (p : X → Bool) (xs : List X) (x : X) → All P xs → find p xs ≡ Some x → P x
found_holds P p [] x all e = absurd (none-some x e)
found_holds P p (y ∷ ys) x all e = elim (cases_Bool (p y)) [
  | inl so ↦ subst P (same_Some y x (sym (ap (λ b. cond b (Some y) (find p ys)) so) ∙ e)) (All-head P y ys all)
  | inr not_so ↦ found_holds P p ys x (All-tail P y ys all) (sym (ap (λ b. cond b (Some y) (find p ys)) not_so) ∙ e)
]

passed_over : {X : Type 0} (p : X → Bool) (xs : List X) (x : X) → find p xs ≡ None → Contains xs x → p x ≡ false
passed_over p [] x e h = absurd (none_in x h)
passed_over p (y ∷ ys) x e h = elim (cases_Bool (p y)) [
  | inl so ↦ absurd (none-some y (sym e ∙ ap (λ b. cond b (Some y) (find p ys)) so))
  | inr not_so ↦ elim (first_or_later y ys x h) [
    | inl same ↦ subst (λ z. p z ≡ false) same not_so
    | inr more ↦ passed_over p ys x (sym (ap (λ b. cond b (Some y) (find p ys)) not_so) ∙ e) more
  ]
]

-- ---- there is a baseline for each pattern

module _ (t : ClassTable) (rows : List (List (List Bool))) where
  length_greedy : (baselines : List (List Bool)) (xs : List (List (List Bool))) → length (fold (with_next t rows) baselines xs) ≡ length baselines + length xs
  length_greedy baselines [] = omega arith
  length_greedy baselines (x ∷ xs) = length_greedy (with_next t rows baselines x) xs ∙ omega (arith, length-next baselines x)
    where
      length-next : (baselines : List (List Bool)) (x : List (List Bool)) → length (with_next t rows baselines x) ≡ length baselines + 1
      length-next baselines x = length_push baselines _

  pub length-better : length (better_baselines t rows) ≡ length rows
  unfolding better_baselines greedy_baselines
  length-better = cond_both (ltb (pairs_apart t rows (greedy_baselines t rows)) (pairs_apart t rows (free_baselines rows))) (free_baselines rows) (greedy_baselines t rows) (λ bs. length bs ≡ length rows)
      (λ e. length-map rows (λ row. answer_in row 0)) (λ e. length_greedy [] rows ∙ omega arith)

  length-improvement : (baselines other : List (List Bool)) → improvement t rows baselines ≡ Some other → length other ≡ length baselines
  unfolding improvement replacements
  length-improvement baselines other e =
      let P : List (List Bool) → Type 0 = λ bs. length bs ≡ length baselines in
      let replaced : ℕ × List (List Bool) → List (List (List Bool)) = λ x. map (λ answer. set baselines x.0 answer) (candidates t x.1) in
      found_holds P (λ o. ltb (pairs_apart t rows baselines) (pairs_apart t rows o)) (replacements t rows baselines) other
      (All-flat_map P replaced (enumerate_from 0 rows)
      (λ k d h. let x = get_or (enumerate_from 0 rows) k d in All-map P (λ answer. set baselines x.0 answer) (candidates t x.1) (λ j a l. length-set baselines x.0 (get_or (candidates t x.1) j a))))
      e

  length_step : (n : ℕ) (baselines : List (List Bool)) (o : Option (List (List Bool))) → improvement t rows baselines ≡ o
      → ((other : List (List Bool)) → length (improved_baselines t rows n other) ≡ length other) → length (option_map_or (improved_baselines t rows n) o baselines) ≡ length baselines
  length_step n baselines None e more = refl
  length_step n baselines (Some other) e more = more other ∙ length-improvement baselines other e

  length-improved : (n : ℕ) (baselines : List (List Bool)) → length (improved_baselines t rows n baselines) ≡ length baselines
  length-improved zero baselines = refl
  length-improved (suc n) baselines = length_step n baselines (improvement t rows baselines) refl (λ other. length-improved n other)

  pub length-chosen : length (chosen_baselines t rows) ≡ length rows
  unfolding chosen_baselines
  length-chosen = length-improved (class_count t * class_count t) (better_baselines t rows) ∙ length-better

  -- ---- a candidate in place of a baseline

  pub is_replacement : (baselines : List (List Bool)) (pattern : ℕ) (answer : List Bool) → pattern < length rows → Contains (candidates t (get_or rows pattern [])) answer
      → Contains (replacements t rows baselines) (set baselines pattern answer)
  unfolding replacements
  is_replacement baselines pattern answer h is =
      let row = get_or rows pattern [] in
      let replaced : ℕ × List (List Bool) → List (List (List Bool)) = λ x. map (λ a. set baselines x.0 a) (candidates t x.1) in
      let place : ℕ × List (List Bool) = (pattern, row) in
      let same : 0 + pattern ≡ pattern = omega arith in
      let own : get_or rows pattern row ≡ row = get_or_default rows pattern row [] h in
      let at : get_or (enumerate_from 0 rows) pattern place ≡ (0 + pattern, get_or rows pattern row) = get_or-enumerate_from 0 rows pattern place h in
      let there : Contains (enumerate_from 0 rows) place = (pattern, omega (arith, h, length-enumerate_from 0 rows), at ∙ (λ i. (same i, own i))) in
      Contains-flat_map replaced (enumerate_from 0 rows) place (set baselines pattern answer) there (Contains-map (λ a. set baselines pattern a) (candidates t row) answer is)

  -- if no replacement is better, no candidate is
  candidate_not_better : (baselines : List (List Bool)) (pattern : ℕ) (answer : List Bool) → improvement t rows baselines ≡ None → pattern < length rows
      → Contains (candidates t (get_or rows pattern [])) answer → pairs_apart t rows (set baselines pattern answer) ≤ pairs_apart t rows baselines
  unfolding improvement
  candidate_not_better baselines pattern answer none h is =
      let other = set baselines pattern answer in
      ltb-false (pairs_apart t rows baselines) (pairs_apart t rows other)
      (passed_over (λ o. ltb (pairs_apart t rows baselines) (pairs_apart t rows o)) (replacements t rows baselines) other none (is_replacement baselines pattern answer h is))

  -- ---- a row that no class answers in place of a baseline

  module _ (baselines : List (List Bool)) (long : length baselines ≡ length rows) (pattern : ℕ) (row : List Bool) (h : pattern < length rows)
      (none : (class : ℕ) → class < class_count t → same_bits (answer_in (get_or rows pattern []) (representative t class)) row ≡ false) where
    abbrev replaced_by : List (List Bool)
    replaced_by = set baselines pattern row

    still_alike : (low high : ℕ) → low < class_count t → high < class_count t → AlikeFrom t rows baselines 0 (length rows) low high → AlikeFrom t rows replaced_by 0 (length rows) low high
    still_alike low high hl hh alike q from below = elim (cases_eq q pattern) [
      | inl e ↦
          let here : (class : ℕ) → class < class_count t → answers_base t rows replaced_by q class ≡ false = λ class l.
          subst (λ k. answers_base t rows replaced_by k class ≡ false) (sym e)
          (ap (same_bits (answer_in (get_or rows pattern []) (representative t class))) (get_or-set_same baselines pattern row [] (omega (arith, h, long))) ∙ none class l) in
          here low hl ∙ sym (here high hh)
      | inr ne ↦
          let as_was : (class : ℕ) → answers_base t rows replaced_by q class ≡ answers_base t rows baselines q class = λ class.
          ap (same_bits (answer_in (get_or rows q []) (representative t class))) (get_or-set_other baselines pattern q row [] ne) in
          as_was low ∙ (alike q from below ∙ sym (as_was high))
    ]

    other_not_better : pairs_apart t rows replaced_by ≤ pairs_apart t rows baselines
    other_not_better =
        let wide : length replaced_by ≡ length rows = length-set baselines pattern row ∙ long in
        omega (
          arith,
          pairs_apart_are t rows replaced_by,
          pairs_apart_are t rows baselines,
          pairs-le (class_count t) (has_apart t (same_diff_entry rows replaced_by)) (has_apart t (same_diff_entry rows baselines))
              (λ low high l hh apart.
              let now = same_bits (same_diff_entry rows replaced_by (representative t low)) (same_diff_entry rows replaced_by (representative t high)) in
              let was = same_bits (same_diff_entry rows baselines (representative t low)) (same_diff_entry rows baselines (representative t high)) in
              let differ : now ≡ false = not-true now apart in
              ap not (false_from_ne_true was (λ so. true_false now ((same_entries t rows replaced_by wide low high).1
              (still_alike low high (omega (arith, l, hh)) hh ((same_entries t rows baselines long low high).0 so))) differ))),
        )

  not_better : (baselines : List (List Bool)) → length baselines ≡ length rows → improvement t rows baselines ≡ None → (pattern : ℕ) (row : List Bool) → pairs_apart t rows (set baselines pattern row) ≤ pairs_apart t rows baselines
  unfolding candidates
  not_better baselines long none pattern row = elim (cases_lt pattern (length rows)) [
    | inr over ↦ let e = set_past baselines pattern row (omega (arith, over, long)) in omega (arith, ap (pairs_apart t rows) e)
    | inl h ↦
        let answers = class_answers t (get_or rows pattern []) in
        elim (cases_Bool (list_any (same_bits row) answers)) [
          | inl so ↦
              let w = passing (same_bits row) answers so in
              let among : Contains answers row = subst (Contains answers) (sym ((same_bits-Decides row w.0).0 w.2)) w.1 in
              candidate_not_better baselines pattern row none h (in_distinct answers row among)
          | inr not_so ↦ other_not_better baselines long pattern row h (λ class l. false_from_ne_true (same_bits (answer_in (get_or rows pattern []) (representative t class)) row) (λ so.
              let answer : ℕ → List Bool = λ c. answer_in (get_or rows pattern []) (representative t c) in
              true_false (list_any (same_bits row) answers)
              (any_from (same_bits row) answers (answer class) (Contains-map answer (range_with_len 0 (class_count t)) class (range-contains (class_count t) class l))
              ((same_bits-Decides row (answer class)).1 (sym ((same_bits-Decides (answer class) row).0 so)))) not_so))
        ]
  ]

pub no_row_better : NoRowIsBetter
no_row_better t rows pattern row = not_better t rows (chosen_baselines t rows) (length-chosen t rows) (none_left t rows) pattern row
