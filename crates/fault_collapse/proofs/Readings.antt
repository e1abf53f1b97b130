-- What readers get, by their places.
use Rattle.std.proofs.Common.{◌≡◌, ◌∙◌, ℕ, suc, ◌+◌, ◌<◌, List, [], ◌∷◌, length, get_or, map, refl, ap, arith, subst}
use Rattle.std.specs.Prelude.{Bool, false, Option, Some, slice_get, unwrap_or}
use Rattle.std.specs.List.{enumerate_from}
use Rattle.std.proofs.lemmas.Option.{slice_get-get_or}
use Rattle.net_model.specs.Fault.{readings}
use Rattle.net_model.specs.Answer.{bit_at, seen_bits}
use Rattle.net_model.proofs.Seen.{length-seen_bits}
use Rattle.fault_list.proofs.Pair.{at_reading}

same_from : {A : Type 0} (read other : ℕ → ℕ → A) (n : ℕ) (lines : List ℕ) → ((k line : ℕ) → slice_get lines k ≡ Some line → read (n + k) line ≡ other (n + k) line)
    → map (λ x. read x.0 x.1) (enumerate_from n lines) ≡ map (λ x. other x.0 x.1) (enumerate_from n lines)
same_from read other n [] h = refl
same_from read other n (line ∷ lines) h =
    let here : read n line ≡ other n line = subst (λ at. read at line ≡ other at line) (omega arith) (h 0 line refl) in
    let rest = same_from read other (n + 1) lines (λ k l e. subst (λ at. read at l ≡ other at l) (omega arith) (h (suc k) l e)) in
    λ i. here i ∷ rest i

-- two ways to read that agree at each place give the same
pub same_places : {A : Type 0} (read other : ℕ → ℕ → A) (lines : List ℕ) → ((place line : ℕ) → slice_get lines place ≡ Some line → read place line ≡ other place line) → readings read lines ≡ readings other lines
unfolding readings
same_places read other lines h = same_from read other 0 lines (λ k line e. subst (λ at. read at line ≡ other at line) (omega arith) (h k line e))

-- what one pin sees
pub seen_at : (stuck : ℕ → Option Bool) (bits : List Bool) (lines : List ℕ) (at : ℕ) → at < length lines → slice_get (seen_bits stuck bits lines) at ≡ Some (unwrap_or (stuck at) (bit_at bits (get_or lines at 0)))
seen_at stuck bits lines at within =
    slice_get-get_or (seen_bits stuck bits lines) at false (omega (arith, length-seen_bits stuck bits lines))
    ∙ ap Some (at_reading (λ place line. unwrap_or (stuck place) (bit_at bits line)) lines at within)
