-- Marks of lines with a list of the marked ones.
use Rattle.std.proofs.Common.{◌≡◌, ℕ, suc, ◌+◌, ◌<◌, ◌≤◌, List, [], ◌∷◌, ◌++◌, length, drop, get_or, set, refl, sym, ◌∙◌, ap, subst, arith, inl, inr}
use Rattle.std.specs.Prelude.{Bool, Some, true, false, not, cond, count_by, find, Contains}
use Rattle.std.proofs.lemmas.Bool.{cases_eq}
use Rattle.std.proofs.Math.Seq.{drop-cons}
use Rattle.std.proofs.lemmas.List.{get_or-set_same, get_or-set_other}
use Rattle.std.proofs.lemmas.List.Elements.{Contains-append_left, Contains-push, Contains-push_cases}
use Rattle.std.proofs.lemmas.List.Sums.{sum_by-set}
use Rattle.net_model.specs.Answer.{bit_at}
use Rattle.net_model.proofs.Elements.{true_false}

-- ---- one line

module _ (marks : List Bool) (lines : List ℕ) (line : ℕ) (inside : line < length marks) where
  pub listed_more : ((l : ℕ) → bit_at marks l ≡ true → Contains lines l) → (l : ℕ) → bit_at (set marks line true) l ≡ true → Contains (lines ++ line ∷ []) l
  listed_more listed l m = elim (cases_eq l line) [
    | inl same ↦ subst (Contains (lines ++ line ∷ [])) (sym same) (Contains-push lines line)
    | inr ne ↦ Contains-append_left lines (line ∷ []) l (listed l (sym (get_or-set_other marks line l true false ne) ∙ m))
  ]

  pub marked_more : ((l : ℕ) → Contains lines l → bit_at marks l ≡ true) → (l : ℕ) → Contains (lines ++ line ∷ []) l → bit_at (set marks line true) l ≡ true
  marked_more marked l m =
      let P : ℕ → Type 0 = λ k. bit_at (set marks line true) k ≡ true in
      let here : P line = get_or-set_same marks line true false inside in
      elim (Contains-push_cases lines line l m) [
        | inl before ↦ elim (cases_eq l line) [
          | inl same ↦ subst P (sym same) here
          | inr ne ↦ get_or-set_other marks line l true false ne ∙ marked l before
        ]
        | inr same ↦ subst P same here
      ]

  pub listed_less : ((l : ℕ) → bit_at marks l ≡ true → Contains (lines ++ line ∷ []) l) → (l : ℕ) → bit_at (set marks line false) l ≡ true → Contains lines l
  listed_less listed l m = elim (cases_eq l line) [
    | inl same ↦
        let P : ℕ → Type 0 = λ k. bit_at (set marks line false) k ≡ false in
        true_false (bit_at (set marks line false) l) m (subst P (sym same) (get_or-set_same marks line false false inside))
    | inr ne ↦ elim (Contains-push_cases lines line l (listed l (sym (get_or-set_other marks line l false false ne) ∙ m))) [
      | inl before ↦ before
      | inr same ↦ absurd (ne (sym same))
    ]
  ]

  -- a new mark leaves one line less without a mark
  pub unmarked_less : bit_at marks line ≡ false → count_by not (set marks line true) + 1 ≡ count_by not marks
  unmarked_less e =
      let counted = sum_by-set (λ (b : Bool). cond (not b) 1 0) marks line true false inside in
      let was : ◌≡◌ {A = ℕ} (cond (not (bit_at marks line)) 1 0) 1 = ap (λ b. cond (not b) 1 0) e in
      omega (arith, counted, was)

  pub unmarked_more : count_by not (set marks line false) ≤ count_by not marks + 1
  unmarked_more =
      let counted = sum_by-set (λ (b : Bool). cond (not b) 1 0) marks line false false inside in
      omega (arith, counted)

-- ---- the first that passes a test

pub find_here : (p : ℕ → Bool) (xs : List ℕ) (i : ℕ) → i < length xs → p (get_or xs i 0) ≡ true → find p (drop i xs) ≡ Some (get_or xs i 0)
find_here p xs i h on = ap (find p) (drop-cons xs i 0 h) ∙ (let here : find p (get_or xs i 0 ∷ drop (suc i) xs) ≡ Some (get_or xs i 0) = rw on refl in here)

pub find_next : (p : ℕ → Bool) (xs : List ℕ) (i : ℕ) → i < length xs → p (get_or xs i 0) ≡ false → find p (drop i xs) ≡ find p (drop (i + 1) xs)
find_next p xs i h off =
    let later : find p (get_or xs i 0 ∷ drop (suc i) xs) ≡ find p (drop (suc i) xs) = rw off refl in
    let next : suc i ≡ i + 1 = omega arith in
    ap (find p) (drop-cons xs i 0 h) ∙ later ∙ ap (λ n. find p (drop n xs)) next
