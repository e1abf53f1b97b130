-- What is found first in a list.
use Rattle.std.proofs.Common.{◌≡◌, ◌∙◌, ℕ, zero, suc, ◌+◌, ◌<◌, refl, ap, sym, arith, cond, get_or, take}
use Rattle.std.specs.Prelude.{Bool, true, false, List, [], ◌∷◌, length, find, Option, None, Some}
use Rattle.std.specs.Option.{option_or}
use Rattle.std.proofs.lemmas.List.{take_more}
use Rattle.std.proofs.lemmas.List.Folds.{find-append}

pub found_at : (test : ℕ → Bool) (xs : List ℕ) (k : ℕ) → k < length xs → find test (take k xs) ≡ None → test (get_or xs k 0) ≡ true → find test xs ≡ Some (get_or xs k 0)
found_at test [] k low none holds = absurd (omega (arith, low))
found_at test (x ∷ xs) zero low none holds = ap (λ b. cond b (Some x) (find test xs)) holds
found_at test (x ∷ xs) (suc k) low none holds = by_case (test x) refl (found_at test xs k (omega (arith, low)))
  where
    by_case : (b : Bool) → test x ≡ b → (find test (take k xs) ≡ None → test (get_or xs k 0) ≡ true → find test xs ≡ Some (get_or xs k 0)) → find test (x ∷ xs) ≡ Some (get_or xs k 0)
    by_case true e later = absurd (let both : Some x ≡ None = ap (λ b. cond b (Some x) (find test (take k xs))) (sym e) ∙ none in cc)
    by_case false e later = ap (λ b. cond b (Some x) (find test xs)) e ∙ later (ap (λ b. cond b (Some x) (find test (take k xs))) (sym e) ∙ none) holds

pub none_more : (test : ℕ → Bool) (xs : List ℕ) (k : ℕ) → k < length xs → find test (take k xs) ≡ None → test (get_or xs k 0) ≡ false → find test (take (k + 1) xs) ≡ None
none_more test xs k low none fails =
    ap (find test) (take_more xs k 0 low)
    ∙ (find-append test (take k xs) (get_or xs k 0 ∷ [])
    ∙ (ap (λ (o : Option ℕ). option_or o (find test (get_or xs k 0 ∷ []))) none ∙ ap (λ b. cond b (Some (get_or xs k 0)) None) fails))
