-- The rows of groups are the distinct answers, in order of their first places.
use Rattle.std.proofs.Common.{◌≡◌, ◌∙◌, ℕ, zero, suc, ◌+◌, ◌<◌, ◌≤◌, Bool, true, false, cond, List, [], ◌∷◌, ◌++◌, length, get_or, take, sym, ap, subst, arith, inl, inr, Contains}
use Rattle.std.proofs.lemmas.Bool.{cases_lt, false_from_ne_true}
use Rattle.std.proofs.lemmas.List.{take_more, take_all, length_push, length-take-le, get_or_append_left, get_or_push, get_or-take, get_or_default, ext_get_or}
use Rattle.std.proofs.lemmas.List.Elements.{Contains-get_or}
use Rattle.dict_rows.specs.Grouped.{AreGroupsOf, IsLeastUnused}
use Rattle.answer_numbers.specs.Distinct.{distinct_answers}
use Rattle.answer_numbers.proofs.DistinctLemmas.{is_among, is_among_from, among_is, distinct_push, from_distinct}

module _ (rows : List (List Bool)) (groups : List ℕ) (entries : List (List Bool)) (are : AreGroupsOf rows groups entries) where
  abbrev row : ℕ → List Bool
  row n = get_or rows n []

  abbrev group : ℕ → ℕ
  group n = get_or groups n 0

  long : length groups ≡ length rows
  long = are.grouped.one_each

  pub group_below : (n : ℕ) → n < length rows → group n < length entries
  group_below n h = (are.grouped.used (group n)).0 (Contains-get_or groups n 0 (omega (arith, h, long)))

  same_group : (m n : ℕ) → m < length rows → n < length rows → row m ≡ row n → group m ≡ group n
  same_group m n hm hn e = are.grouped.different.apart (group m) (group n) (group_below m hm) (group_below n hn) (are.own m hm ∙ (e ∙ sym (are.own n hn)))

  same_row : (m n : ℕ) → m < length rows → n < length rows → group m ≡ group n → row m ≡ row n
  same_row m n hm hn e = sym (are.own m hm) ∙ (ap (λ g. get_or entries g []) e ∙ are.own n hn)

  used_at : (m g : ℕ) → m ≤ length rows → Contains (take m groups) g → (n : ℕ) × (n < m) × (group n ≡ g)
  used_at m g h (k, l, e) =
      let below : k < m = omega (arith, l, length-take-le m groups (omega (arith, h, long))) in
      (k, below, get_or_default groups k 0 g (omega (arith, below, h, long)) ∙ (sym (get_or-take m groups k g below) ∙ e))

  row_at_used : (m : ℕ) (x : List Bool) → m ≤ length rows → Contains (take m rows) x → (n : ℕ) × (n < m) × (row n ≡ x)
  row_at_used m x h (k, l, e) =
      let below : k < m = omega (arith, l, length-take-le m rows h) in
      (k, below, get_or_default rows k [] x (omega (arith, below, h)) ∙ (sym (get_or-take m rows k x below) ∙ e))

  in_front : (m n : ℕ) (x : List Bool) → m ≤ length rows → n < m → row n ≡ x → Contains (take m rows) x
  in_front m n x h l e = (n, omega (arith, l, length-take-le m rows h), get_or-take m rows n x l ∙ (get_or_default rows n x [] (omega (arith, l, h)) ∙ e))

  abbrev firsts : ℕ → List (List Bool)
  firsts m = distinct_answers (take m rows)

  -- the distinct answers of the first rows are the first entries
  record FirstsAre (m : ℕ) : Type 0 where
    same : (k : ℕ) → k < length (firsts m) → get_or (firsts m) k [] ≡ get_or entries k []
    few : length (firsts m) ≤ length entries
    known : (n : ℕ) → n < m → group n < length (firsts m)

  -- a row that came before
  repeats : (m n : ℕ) → m < length rows → n < m → group n ≡ group m → FirstsAre m → FirstsAre (m + 1)
  repeats m n h l e so_far =
      let among : is_among (row m) (take m rows) ≡ true = is_among_from (row m) (take m rows) (in_front m n (row m) (omega (arith, h)) l (same_row n m (omega (arith, l, h)) h e)) in
      let is : firsts (m + 1) ≡ firsts m = ap distinct_answers (take_more rows m [] h) ∙ (distinct_push (take m rows) (row m) ∙ ap (λ b. cond b (firsts m) (firsts m ++ row m ∷ [])) among) in
      record {
        same = λ k b. ap (λ xs. get_or xs k []) is ∙ so_far.same k (subst (λ xs. k < length xs) is b);
        few = subst (λ xs. length xs ≤ length entries) (sym is) so_far.few;
        known = λ j b. subst (λ xs. group j < length xs) (sym is) (elim (cases_lt j m) [
          | inl low ↦ so_far.known j low
          | inr over ↦ let same_place : j ≡ m = omega (arith, b, over) in subst (λ g. g < length (firsts m)) (e ∙ ap group (sym same_place)) (so_far.known n l)
        ]);
      }

  -- a row that is new
  is_new : (m : ℕ) → m < length rows → IsLeastUnused (take m groups) (group m) → FirstsAre m → FirstsAre (m + 1)
  is_new m h least so_far =
      let g = group m in
      let count = length (firsts m) in
      let not_before : (n : ℕ) → n < m → group n ≡ g → ⊥ = λ n l e. least.unused (n, omega (arith, l, h, long, length-take-le m groups (omega (arith, h, long))), get_or-take m groups n g l ∙ (get_or_default groups n g 0 (omega (arith, l, h, long)) ∙ e)) in
      let at_most : g ≤ count = elim (cases_lt count g) [
        | inr low ↦ low
        | inl more ↦ let w = used_at m count (omega (arith, h)) (least.lower count more) in let k = so_far.known w.0 w.1 in absurd (omega (arith, k, w.2))
      ] in
      let at_least : count ≤ g = elim (cases_lt g count) [
        | inr low ↦ low
        | inl more ↦
            let w = row_at_used m (get_or (firsts m) g []) (omega (arith, h)) (from_distinct (take m rows) (get_or (firsts m) g []) (Contains-get_or (firsts m) g [] more)) in
            let below : w.0 < length rows = omega (arith, w.1, h) in
            absurd (not_before w.0 w.1 (are.grouped.different.apart (group w.0) g (group_below w.0 below) (group_below m h) (are.own w.0 below ∙ (w.2 ∙ so_far.same g more))))
      ] in
      let here : g ≡ count = omega (arith, at_most, at_least) in
      let none : is_among (row m) (take m rows) ≡ false = false_from_ne_true (is_among (row m) (take m rows)) (λ so.
      let w = row_at_used m (row m) (omega (arith, h)) (among_is (row m) (take m rows) so) in
      not_before w.0 w.1 (same_group w.0 m (omega (arith, w.1, h)) h w.2)) in
      let is : firsts (m + 1) ≡ firsts m ++ row m ∷ [] = ap distinct_answers (take_more rows m [] h) ∙ (distinct_push (take m rows) (row m) ∙ ap (λ b. cond b (firsts m) (firsts m ++ row m ∷ [])) none) in
      let wide : length (firsts (m + 1)) ≡ count + 1 = ap length is ∙ length_push (firsts m) (row m) in
      record {
        same = λ k b. ap (λ xs. get_or xs k []) is ∙ elim (cases_lt k count) [
          | inl low ↦ get_or_append_left (firsts m) (row m ∷ []) [] k low ∙ so_far.same k low
          | inr over ↦
              let e : k ≡ count = omega (arith, b, over, wide) in
              get_or_push (firsts m) (row m) [] k (sym e) ∙ (sym (are.own m h) ∙ ap (λ j. get_or entries j []) (here ∙ sym e))
        ];
        few = omega (arith, wide, group_below m h, here);
        known = λ j b. elim (cases_lt j m) [
          | inl low ↦ omega (arith, so_far.known j low, wide)
          | inr over ↦ let same_place : j ≡ m = omega (arith, b, over) in omega (arith, ap group same_place, here, wide)
        ];
      }

  firsts_more : (m : ℕ) → m < length rows → FirstsAre m → FirstsAre (m + 1)
  firsts_more m h so_far = elim (are.grouped.numbered.each m (omega (arith, h, long))) [
    | inl before ↦ let w = used_at m (group m) (omega (arith, h)) before in repeats m w.0 h w.1 w.2 so_far
    | inr least ↦ is_new m h least so_far
  ]

  firsts_to : (m : ℕ) → m ≤ length rows → FirstsAre m
  firsts_to zero h = record { same = λ k b. absurd (omega (arith, b)); few = omega arith; known = λ n b. absurd (omega (arith, b)) }
  firsts_to (suc m) h = let e : m + 1 ≡ suc m = omega arith in subst FirstsAre e (firsts_more m (omega (arith, h)) (firsts_to m (omega (arith, h))))

  pub entries_distinct : entries ≡ distinct_answers rows
  entries_distinct =
      let all = firsts_to (length rows) (omega arith) in
      let whole : take (length rows) rows ≡ rows = take_all (length rows) rows (omega arith) in
      let full : length entries ≤ length (firsts (length rows)) = elim (cases_lt (length (firsts (length rows))) (length entries)) [
        | inr low ↦ low
        | inl more ↦
            let w = (are.grouped.used (length (firsts (length rows)))).1 more in
            let known = all.known w.0 (omega (arith, w.1, long)) in
            let e : group w.0 ≡ length (firsts (length rows)) = get_or_default groups w.0 0 (length (firsts (length rows))) w.1 ∙ w.2 in
            absurd (omega (arith, known, e))
      ] in
      sym (ext_get_or [] (firsts (length rows)) entries (omega (arith, all.few, full)) all.same) ∙ ap distinct_answers whole
