-- Lists that are stored one after another in one vector.
use Rattle.std.proofs.Common.{◌≡◌, ◌∙◌, ℕ, ◌+◌, ◌-◌, ◌<◌, ◌≤◌, List, [], ◌∷◌, ◌++◌, length, map, take, drop, get_or, refl, sym, ap, arith, inl, inr, length-append, length-drop}
use Rattle.std.specs.Prelude.{slice_range, sum_by}
use Rattle.std.specs.List.{range_with_len}
use Rattle.std.proofs.Math.Seq.{drop-append_seam}
use Rattle.std.proofs.lemmas.Bool.{cases_lt}
use Rattle.std.proofs.lemmas.List.{ext_get_or, get_or_append_left, get_or_push, take-append-le, drop-append-le, take_all, take_more}
use Rattle.std.proofs.lemmas.List.FromFn.{length-map-range_with_len, get_or-map-range_with_len, map-range_with_len_more}
use Rattle.std.proofs.lemmas.List.Sums.{sum_by_more}
use Rattle.net_model.specs.ListsFields.{lists_between, AreStarts}

-- two functions that agree on a range
map_alike : {A : Type 0} (d : A) (f g : ℕ → A) (n : ℕ) → ((k : ℕ) → k < n → f k ≡ g k) → map f (range_with_len 0 n) ≡ map g (range_with_len 0 n)
map_alike d f g n same =
    ext_get_or d (map f (range_with_len 0 n)) (map g (range_with_len 0 n)) (length-map-range_with_len f 0 n ∙ sym (length-map-range_with_len g 0 n))
    (λ k h. let below : k < n = omega (arith, h, length-map-range_with_len f 0 n) in get_or-map-range_with_len f 0 n k k d below (omega arith) ∙ same k below ∙ sym (get_or-map-range_with_len g 0 n k k d below (omega arith)))

-- a part stays the same if more follows
part_before : (xs ys : List ℕ) (start end : ℕ) → start ≤ end → end ≤ length xs → slice_range (xs ++ ys) start end ≡ slice_range xs start end
part_before xs ys start end h k =
    ap (take (end - start)) (drop-append-le start xs ys (omega arith))
    ∙ take-append-le (end - start) (drop start xs) ys (omega (arith, length-drop start xs))

part_after : (xs ys : List ℕ) → slice_range (xs ++ ys) (length xs) (length xs + length ys) ≡ ys
part_after xs ys =
    ap (take (length xs + length ys - length xs)) (drop-append_seam xs ys)
    ∙ take_all (length xs + length ys - length xs) ys (omega arith)

module _ (starts numbers list : List ℕ) (are : AreStarts starts numbers) where
  abbrev pub more_starts : List ℕ
  more_starts = starts ++ (length numbers + length list) ∷ []

  count : length more_starts ≡ length starts + 1
  count = length-append starts ((length numbers + length list) ∷ [])

  earlier : (k : ℕ) → k < length starts → get_or more_starts k 0 ≡ get_or starts k 0
  earlier k h = get_or_append_left starts ((length numbers + length list) ∷ []) 0 k h

  newest : get_or more_starts (length starts) 0 ≡ length numbers + length list
  newest = get_or_push starts (length numbers + length list) 0 (length starts) refl

  pub starts_more : AreStarts more_starts (numbers ++ list)
  starts_more = record {
    some = omega (arith, count);
    ascend = λ k h. elim (cases_lt (k + 1) (length starts)) [
      | inl under ↦ omega (arith, earlier k (omega arith), earlier (k + 1) under, are.ascend k under)
      | inr over ↦
          let last : k + 1 ≡ length starts = omega (arith, h, count) in
          let end : get_or more_starts (k + 1) 0 ≡ length numbers + length list = ap (λ n. get_or more_starts n 0) last ∙ newest in
          omega (arith, end, earlier k (omega arith), are.inside k (omega arith))
    ];
    inside = λ k h. elim (cases_lt k (length starts)) [
      | inl under ↦ omega (arith, earlier k under, are.inside k under, length-append numbers list)
      | inr over ↦
          let last : k ≡ length starts = omega (arith, h, count) in
          let end : get_or more_starts k 0 ≡ length numbers + length list = ap (λ n. get_or more_starts n 0) last ∙ newest in
          omega (arith, end, length-append numbers list)
    ];
    last =
        let at : length more_starts - 1 ≡ length starts = omega (arith, count) in
        ap (λ n. get_or more_starts n 0) at ∙ newest ∙ sym (length-append numbers list);
  }

  pub between_more : lists_between more_starts (numbers ++ list) ≡ lists_between starts numbers ++ list ∷ []
  between_more =
      let lists = length starts - 1 in
      let one_more : length more_starts - 1 ≡ lists + 1 = omega (arith, count, are.some) in
      let f : ℕ → List ℕ = λ k. slice_range (numbers ++ list) (get_or more_starts k 0) (get_or more_starts (k + 1) 0) in
      let g : ℕ → List ℕ = λ k. slice_range numbers (get_or starts k 0) (get_or starts (k + 1) 0) in
      let start : get_or more_starts lists 0 ≡ length numbers = earlier lists (omega (arith, are.some)) ∙ are.last in
      let at : lists + 1 ≡ length starts = omega (arith, are.some) in
      let end : get_or more_starts (lists + 1) 0 ≡ length numbers + length list = ap (λ n. get_or more_starts n 0) at ∙ newest in
      let newest_list : f lists ≡ list = ap (λ n. slice_range (numbers ++ list) n (get_or more_starts (lists + 1) 0)) start ∙ ap (slice_range (numbers ++ list) (length numbers)) end ∙ part_after numbers list in
      let same : (k : ℕ) → k < lists → f k ≡ g k =
      λ k h.
      ap (λ n. slice_range (numbers ++ list) n (get_or more_starts (k + 1) 0)) (earlier k (omega arith))
      ∙ ap (slice_range (numbers ++ list) (get_or starts k 0)) (earlier (k + 1) (omega arith))
      ∙ part_before numbers list (get_or starts k 0) (get_or starts (k + 1) 0) (are.ascend k (omega arith)) (are.inside (k + 1) (omega arith)) in
      ap (λ n. map f (range_with_len 0 n)) one_more
      ∙ map-range_with_len_more f 0 lists lists (omega arith)
      ∙ ap (λ xs. xs ++ f lists ∷ []) (map_alike [] f g lists same)
      ∙ ap (λ x. lists_between starts numbers ++ x ∷ []) newest_list

pub between_count : (starts numbers : List ℕ) → length (lists_between starts numbers) ≡ length starts - 1
between_count starts numbers = length-map-range_with_len (λ k. slice_range numbers (get_or starts k 0) (get_or starts (k + 1) 0)) 0 (length starts - 1)

pub between_at : (starts numbers : List ℕ) (k : ℕ) → k < length starts - 1 → get_or (lists_between starts numbers) k [] ≡ slice_range numbers (get_or starts k 0) (get_or starts (k + 1) 0)
between_at starts numbers k h = get_or-map-range_with_len (λ n. slice_range numbers (get_or starts n 0) (get_or starts (n + 1) 0)) 0 (length starts - 1) k k [] h (omega arith)

-- ---- the first lists

pub record AreLists (starts numbers : List ℕ) (lists : List (List ℕ)) (n : ℕ) : Type 0 where
  pub are_starts : AreStarts starts numbers
  pub count : length starts ≡ n + 1
  pub between : lists_between starts numbers ≡ take n lists
  pub total : length numbers ≡ sum_by length (take n lists)

pub lists_none : (lists : List (List ℕ)) → AreLists (0 ∷ []) [] lists 0
lists_none lists = record {
  are_starts = record {
    some = omega arith;
    ascend = λ k h. absurd (omega (arith, h));
    inside = λ k h. let first : k ≡ 0 = omega (arith, h) in omega (arith, ap (λ n. get_or {A = ℕ} (0 ∷ []) n 0) first);
    last = refl;
  };
  count = refl;
  between = refl;
  total = refl;
}

pub lists_more : (starts numbers : List ℕ) (lists : List (List ℕ)) (n : ℕ) → AreLists starts numbers lists n → n < length lists
    → AreLists (starts ++ length (numbers ++ get_or lists n []) ∷ []) (numbers ++ get_or lists n []) lists (n + 1)
lists_more starts numbers lists n are h =
    let list = get_or lists n [] in
    rw (length-append numbers list)
    record {
      are_starts = starts_more starts numbers list are.are_starts;
      count = length-append starts ((length numbers + length list) ∷ []) ∙ ap (λ k. k + 1) are.count;
      between = between_more starts numbers list are.are_starts ∙ ap (λ xs. xs ++ list ∷ []) are.between ∙ sym (take_more lists n [] h);
      total = length-append numbers list ∙ ap (λ k. k + length list) are.total ∙ sym (sum_by_more length lists n [] h);
    }
