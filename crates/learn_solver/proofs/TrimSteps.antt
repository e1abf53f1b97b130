-- The needed chains with new numbers, chain by chain.
use Rattle.std.proofs.Common.{◌≡◌, ◌∙◌, ◌<◌, ◌≤◌, ◌+◌, ◌⊎◌, ℕ, List, [], ◌∷◌, ◌++◌, length, take, refl, sym, ap, subst, arith, inl, inr}
use Rattle.std.specs.Prelude.{Bool, Some, slice_get}
use Rattle.std.proofs.lemmas.Bool.{cases_eq}
use Rattle.std.proofs.lemmas.List.{length_push, take-append-le, take_all, get_or_append_left, get_or_push}
use Rattle.std.proofs.lemmas.Option.{slice_get_within, slice_get-get_or, same_Some}
use Rattle.pair_miter.specs.ChainView.{ChainView}
use Rattle.learn_solver.specs.Needed.{IsNeededAt, IsEndAt, IsTrimmedTo, renumbered_chain}

-- an element stays where it was when one more is pushed
pub pushed_same : {A : Type 0} (xs : List A) (x y : A) (i : ℕ) → slice_get xs i ≡ Some y → slice_get (xs ++ x ∷ []) i ≡ Some y
pushed_same xs x y i is =
    let within = slice_get_within xs i y is in
    slice_get-get_or (xs ++ x ∷ []) i y (omega (arith, within, length_push xs x))
    ∙ (ap Some (get_or_append_left xs (x ∷ []) y i within) ∙ (sym (slice_get-get_or xs i y within) ∙ is))

pub pushed_last : {A : Type 0} (xs : List A) (x : A) → slice_get (xs ++ x ∷ []) (length xs) ≡ Some x
pushed_last xs x = slice_get-get_or (xs ++ x ∷ []) (length xs) x (omega (arith, length_push xs x)) ∙ ap Some (get_or_push xs x x (length xs) refl)

-- an element of the longer list is the pushed one or was there
pub pushed_cases : {A : Type 0} (xs : List A) (x y : A) (i : ℕ) → slice_get (xs ++ x ∷ []) i ≡ Some y → (slice_get xs i ≡ Some y) ⊎ ((i ≡ length xs) × (x ≡ y))
pushed_cases xs x y i is =
    let within = slice_get_within (xs ++ x ∷ []) i y is in
    elim (cases_eq i (length xs)) [
      | inl same ↦ inr (same, same_Some x y (sym (pushed_last xs x) ∙ subst (λ k. slice_get (xs ++ x ∷ []) k ≡ Some y) same is))
      | inr ne ↦
          let low : i < length xs = omega (arith, within, length_push xs x, ne) in
          inl (slice_get-get_or xs i y low ∙ (ap Some (sym (get_or_append_left xs (x ∷ []) y i low)) ∙ (sym (slice_get-get_or (xs ++ x ∷ []) i y within) ∙ is)))
    ]

module _ (count : ℕ) (chains : List ChainView) (marks : List Bool) where
  pub trimmed_none : IsTrimmedTo count chains marks 0 [] []
  trimmed_none = record {
    whole = refl;
    few = omega arith;
    placed = λ at chain low marked is. absurd (omega (arith, low));
    onto = λ place low. absurd (omega (arith, low));
    within = λ at place is. absurd (omega (arith, slice_get_within {A = ℕ} [] at (count + place + 1) is));
    ascend = λ at later place other before first second. absurd (omega (arith, slice_get_within {A = ℕ} [] at (count + place + 1) first));
  }

  -- the numbers before a place stay when one more is pushed
  same_take : (at : ℕ) (numbers : List ℕ) (number : ℕ) → at ≤ length numbers → take at (numbers ++ number ∷ []) ≡ take at numbers
  same_take at numbers number low = take-append-le at numbers (number ∷ []) low

  pub trimmed_skip : (upto : ℕ) (numbers : List ℕ) (short : List ChainView) → (IsNeededAt marks upto → ⊥) → IsTrimmedTo count chains marks upto numbers short → IsTrimmedTo count chains marks (upto + 1) (numbers ++ 0 ∷ []) short
  trimmed_skip upto numbers short none h =
      let older : (at place : ℕ) → IsEndAt count (numbers ++ 0 ∷ []) at place → IsEndAt count numbers at place = λ at place is. elim (pushed_cases numbers 0 (count + place + 1) at is) [
        | inl was ↦ was
        | inr wrong ↦ absurd (omega (arith, wrong.1))
      ] in
      record {
        whole = length_push numbers 0 ∙ ap (λ n. n + 1) h.whole;
        few = omega (arith, h.few);
        placed = λ at chain low marked is. elim (cases_eq at upto) [
          | inl same ↦ absurd (none (subst (IsNeededAt marks) same marked))
          | inr ne ↦
              let was = h.placed at chain (omega (arith, low, ne)) marked is in
              (was.0, pushed_same numbers 0 (count + was.0 + 1) at was.1, was.2 ∙ ap (λ xs. Some (renumbered_chain count xs chain)) (sym (same_take at numbers 0 (omega (arith, low, ne, h.whole)))))
        ];
        onto = λ place low. let was = h.onto place low in (was.0, omega (arith, was.1), was.2, pushed_same numbers 0 (count + place + 1) was.0 was.3);
        within = λ at place is. h.within at place (older at place is);
        ascend = λ at later place other before first second. h.ascend at later place other before (older at place first) (older later other second);
      }

  pub trimmed_more : (upto number : ℕ) (numbers : List ℕ) (short : List ChainView) (here : ChainView) → slice_get chains upto ≡ Some here → IsNeededAt marks upto → number ≡ count + length short + 1
      → IsTrimmedTo count chains marks upto numbers short → IsTrimmedTo count chains marks (upto + 1) (numbers ++ number ∷ []) (short ++ renumbered_chain count numbers here ∷ [])
  trimmed_more upto number numbers short here is_here marked next h =
      let new = renumbered_chain count numbers here in
      let long = length_push short new in
      let last : IsEndAt count (numbers ++ number ∷ []) upto (length short) = subst (λ k. slice_get (numbers ++ number ∷ []) k ≡ Some (count + length short + 1)) h.whole (pushed_last numbers number ∙ ap Some next) in
      -- an end has a place in the shorter log, or is the new one
      let cases : (at place : ℕ) → IsEndAt count (numbers ++ number ∷ []) at place → (IsEndAt count numbers at place) ⊎ ((at ≡ upto) × (place ≡ length short)) = λ at place is. elim (pushed_cases numbers number (count + place + 1) at is) [
        | inl was ↦ inl was
        | inr new ↦ inr (new.0 ∙ h.whole, omega (arith, new.1, next))
      ] in
      record {
        whole = length_push numbers number ∙ ap (λ n. n + 1) h.whole;
        few = omega (arith, h.few, long);
        placed = λ at chain low m is. elim (cases_eq at upto) [
          | inl same ↦
              let same_chain : here ≡ chain = same_Some here chain (sym is_here ∙ subst (λ k. slice_get chains k ≡ Some chain) same is) in (
                length short,
                subst (λ k. IsEndAt count (numbers ++ number ∷ []) k (length short)) (sym same) last,
                pushed_last short new ∙ ap Some (ap (renumbered_chain count numbers) same_chain ∙ ap (λ xs. renumbered_chain count xs chain)
                    (sym (ap (λ k. take k (numbers ++ number ∷ [])) same ∙ (same_take upto numbers number (omega (arith, h.whole)) ∙ take_all upto numbers (omega (arith, h.whole)))))),
              )
          | inr ne ↦
              let was = h.placed at chain (omega (arith, low, ne)) m is in (
                was.0,
                pushed_same numbers number (count + was.0 + 1) at was.1,
                pushed_same short new (renumbered_chain count (take at (numbers ++ number ∷ [])) chain) was.0
                    (was.2 ∙ ap (λ xs. Some (renumbered_chain count xs chain)) (sym (same_take at numbers number (omega (arith, low, ne, h.whole))))),
              )
        ];
        onto = λ place low. elim (cases_eq place (length short)) [
          | inl same ↦ (upto, omega arith, marked, subst (λ p. IsEndAt count (numbers ++ number ∷ []) upto p) (sym same) last)
          | inr ne ↦ let was = h.onto place (omega (arith, low, long, ne)) in (was.0, omega (arith, was.1), was.2, pushed_same numbers number (count + place + 1) was.0 was.3)
        ];
        within = λ at place is. elim (cases at place is) [
          | inl was ↦ omega (arith, h.within at place was, long)
          | inr now ↦ omega (arith, now.1, long)
        ];
        ascend = λ at later place other before first second. elim (cases later other second) [
          | inl after ↦ elim (cases at place first) [
            | inl earlier ↦ h.ascend at later place other before earlier after
            | inr now ↦ absurd (omega (arith, now.0, before, h.whole, slice_get_within numbers later (count + other + 1) after))
          ]
          | inr now ↦ elim (cases at place first) [
            | inl earlier ↦ omega (arith, now.1, h.within at place earlier)
            | inr both ↦ absurd (omega (arith, both.0, now.0, before))
          ]
        ];
      }
