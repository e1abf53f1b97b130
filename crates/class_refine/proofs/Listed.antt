-- A cut in the classes that are listed.
use Rattle.std.proofs.Common.{◌≡◌, ◌∙◌, ℕ, zero, suc, ◌+◌, ◌<◌, ◌≤◌, Bool, false, eqb, ◌⊎◌, List, [], ◌∷◌, ◌++◌, length, get_or, refl, sym, arith, inl, inr, filter, flat_map, All, Contains}
use Rattle.std.specs.List.{range_with_len}
use Rattle.std.proofs.lemmas.Bool.{cases_eq, eqb-true, eq-eqb, false_from_ne_true}
use Rattle.std.proofs.lemmas.List.{get_or_default}
use Rattle.std.proofs.lemmas.List.Elements.{All-contains}
use Rattle.std.proofs.lemmas.List.Kept.{AllPairs-from_increasing}
use Rattle.net_model.specs.ClassTable.{ClassTable, class_count, class_at, members, representative, answer_at, begins_class, new_lowest}
use Rattle.net_model.proofs.Elements.{true_false, none_in, first_or_later}
use Rattle.class_refine.specs.CutIn.{AreClassesOf, AreAlikeElsewhere}
use Rattle.class_refine.proofs.Ranges.{Ascends, filter_none, position_cases}
use Rattle.class_refine.proofs.Pieces.{members-All, begins_from, lead_is, same_piece}

-- ---- parts, most of them empty

-- Each number that has a part is listed.
abbrev AreListed : (ℕ → List ℕ) → ℕ → List ℕ → Type 0
AreListed F s cs = (c : ℕ) → s ≤ c → (F c ≡ []) ⊎ Contains cs c

-- a number that is below all that are listed has no part
empty_below : (F : ℕ → List ℕ) (s c : ℕ) (cs : List ℕ) → Ascends (c ∷ cs) → s < c → AreListed F s (c ∷ cs) → F s ≡ []
empty_below F s c cs up less listed = elim (listed s (omega arith)) [
  | inl none ↦ none
  | inr has ↦ elim (first_or_later c cs s has) [
    | inl here ↦ absurd (omega (arith, here, less))
    | inr more ↦ absurd (omega (arith, less, All-contains (λ x. c < x) cs s (λ k d h. up 0 (suc k) d (omega arith) (omega (arith, h))) more))
  ]
]

listed_later : (F : ℕ → List ℕ) (s c : ℕ) (cs : List ℕ) → c ≡ s → AreListed F s (c ∷ cs) → AreListed F (s + 1) cs
listed_later F s c cs is listed x above = elim (listed x (omega (arith, above))) [
  | inl none ↦ inl none
  | inr has ↦ elim (first_or_later c cs x has) [
    | inl here ↦ absurd (omega (arith, here, is, above))
    | inr more ↦ inr more
  ]
]

-- the parts of a range are those of the numbers that are listed
parts_listed : (F : ℕ → List ℕ) (k s : ℕ) (cs : List ℕ) → Ascends cs → All (λ c. s ≤ c) cs → All (λ c. c < s + k) cs → AreListed F s cs → flat_map F (range_with_len s k) ≡ flat_map F cs
parts_listed F zero s [] up low high listed = refl
parts_listed F zero s (c ∷ cs) up low high listed = absurd (omega (arith, low 0 0 (omega arith), high 0 0 (omega arith)))
parts_listed F (suc k) s [] up low high listed =
    let none : F s ≡ [] = elim (listed s (omega arith)) [ inl none ↦ none | inr has ↦ absurd (none_in s has) ] in
    λ i. none i ++ parts_listed F k (s + 1) [] up (λ j d h. absurd (omega (arith, h))) (λ j d h. absurd (omega (arith, h))) (λ x above. listed x (omega (arith, above))) i
parts_listed F (suc k) s (c ∷ cs) up low high listed = elim (cases_eq c s) [
  | inl is ↦
      λ i. F (sym is i)
      ++ parts_listed F k (s + 1) cs (λ a b d l h. up (suc a) (suc b) d (omega (arith, l)) (omega (arith, h))) (λ j d h. let l = up 0 (suc j) d (omega arith) (omega (arith, h)) in omega (arith, l, is))
      (λ j d h. let l = high (suc j) d (omega (arith, h)) in omega (arith, l)) (listed_later F s c cs is listed) i
  | inr ne ↦
      let less : s < c = omega (arith, low 0 0 (omega arith), ne) in
      λ i. empty_below F s c cs up less listed i
      ++ parts_listed F k (s + 1) (c ∷ cs) up
      (λ j d h. elim (cases_eq j 0) [
        | inl first ↦ rw first (omega (arith, less))
        | inr more ↦ let l = up 0 j d (omega (arith, more)) h in omega (arith, l, less)
      ])
      (λ j d h. let l = high j d h in omega (arith, l)) (λ x above. listed x (omega (arith, above))) i
]

module _ (t : ClassTable) (row : List (List Bool)) where
  -- no piece leaves a class whose members answer alike
  none_leave : (class : ℕ) → ((m n : ℕ) → m < length t.class_of → n < length t.class_of → class_at t m ≡ class → class_at t n ≡ class → answer_at t row m ≡ answer_at t row n)
      → filter (begins_class t row) (members t class) ≡ []
  none_leave class same =
      filter_none (begins_class t row) (members t class)
      (λ k d h.
      let n = get_or (members t class) k d in
      let is = members-All t class k d h in
      let rep = representative t (class_at t n) in
      let lead = lead_is t row n is.0 in
      false_from_ne_true (begins_class t row n)
      (λ e.
      let b = begins_from t row n is.0 e in
      b.leaves (sym lead.2 ∙ (same_piece t row rep n lead.0 is.0 lead.1 (same rep n lead.0 is.0 (lead.1 ∙ is.1) is.1) ∙ b.own))))

  -- all pieces leave the listed classes
  pub listed_pieces : (classes : List ℕ) → AreClassesOf t classes → AreAlikeElsewhere t row classes → new_lowest t row ≡ flat_map (λ class. filter (begins_class t row) (members t class)) classes
  unfolding new_lowest
  listed_pieces classes are alike =
      parts_listed (λ class. filter (begins_class t row) (members t class)) (class_count t) 0 classes (AllPairs-from_increasing classes are.ascend) (λ k d h. omega arith) (λ k d h. let l = are.within k d h in omega (arith, l))
      (λ c above. elim (position_cases (λ x. eqb x c) classes) [
        | inr (k, l, e, found) ↦ inr (k, l, get_or_default classes k c 0 l ∙ eqb-true (get_or classes k 0) c e)
        | inl (none, all) ↦ inl (none_leave c (λ m n hm hn em en. elim (alike m n hm hn (em ∙ sym en)) [
          | inl same ↦ same
          | inr has ↦ true_false (eqb (class_at t m) c) (eq-eqb (class_at t m) c em) (All-contains (λ x. eqb x c ≡ false) classes (class_at t m) all has)
        ]))
      ])
