-- The number of a fault, from the place of its site.
use Rattle.std.proofs.Common.{◌≡◌, ◌∙◌, ℕ, zero, suc, ◌+◌, ◌*◌, ◌<◌, Bool, List, length, refl, ap, arith}
use Rattle.std.specs.Prelude.{Option, None, Some, slice_get}
use Rattle.std.specs.Int.{from_bool}
use Rattle.std.proofs.lemmas.Option.{same_Some, slice_get_within}
use Rattle.net_model.specs.declared.fault.Site.{Site}
use Rattle.net_model.specs.declared.fault.Fault.TheVariants.{Free, Stuck}
use Rattle.fault_list.specs.Numbers.{faults_at}
use Rattle.fault_list.proofs.Stuck.{stuck_of, site_of, never_free}

-- the option is the place of the item if there is one, and of no other item
abbrev pub IsPlaceOf : {A : Type 0} → List A → A → Option ℕ → Type 0
IsPlaceOf xs x found = (place : ℕ) → (found ≡ Some place → slice_get xs place ≡ Some x) × (slice_get xs place ≡ Some x → found ≡ Some place)

pub place_within : {A : Type 0} (xs : List A) (x : A) (place : ℕ) → IsPlaceOf xs x (Some place) → place < length xs
place_within xs x place one = slice_get_within xs place x ((one place).0 refl)

module _ (sites : List Site) where
  pub free_number : IsPlaceOf (faults_at sites) Free (Some 0)
  free_number zero = (λ e. refl, λ e. refl)
  free_number (suc number) = (λ e. absurd (omega (arith, same_Some 0 (suc number) e)), λ e. absurd (never_free sites number e))

  pub no_number : (site : Site) (bit : Bool) → IsPlaceOf sites site None → IsPlaceOf (faults_at sites) (Stuck site bit) None
  no_number site bit none zero = (λ e. cc, λ e. cc)
  no_number site bit none (suc number) = (λ e. cc, λ e. let w = site_of sites number site bit e in let absent = (none w.0).1 w.1 in cc)

  pub some_number : (site : Site) (bit : Bool) (place number : ℕ) → number ≡ 1 + 2 * place + from_bool bit → IsPlaceOf sites site (Some place) → IsPlaceOf (faults_at sites) (Stuck site bit) (Some number)
  some_number site bit place number is one zero = (λ e. absurd (omega (arith, is, same_Some number zero e)), λ e. cc)
  some_number site bit place number is one (suc after) = (
    λ e.
        let there : after ≡ 2 * place + from_bool bit = omega (arith, is, same_Some number (suc after) e) in
        ap (λ n. slice_get (faults_at sites) (suc n)) there ∙ stuck_of sites place site bit ((one place).0 refl),
    λ e.
        let w = site_of sites after site bit e in
        let same : place ≡ w.0 = same_Some place w.0 ((one w.0).1 w.1) in
        ap Some (omega (arith, is, same, w.2)),
  )
