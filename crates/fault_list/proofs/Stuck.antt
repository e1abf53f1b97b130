-- The faults at a list of sites, by number.
use Rattle.std.proofs.Common.{◌≡◌, ◌∙◌, ℕ, zero, suc, ◌+◌, ◌*◌, ◌/◌, ◌%◌, Bool, true, false, eqb, List, [], ◌∷◌, length, refl, ap, arith}
use Rattle.std.specs.Prelude.{Some, slice_get, flat_map}
use Rattle.std.specs.Int.{from_bool}
use Rattle.net_model.specs.declared.fault.Site.{Site}
use Rattle.net_model.specs.declared.fault.Fault.TheVariants.{Free, Stuck}
use Rattle.net_model.specs.FaultList.{both_stuck}

pub length-stuck : (sites : List Site) → length (flat_map both_stuck sites) ≡ 2 * length sites
length-stuck [] = refl
length-stuck (site ∷ sites) = omega (arith, length-stuck sites)

pub stuck_at : (sites : List Site) (place : ℕ) (site : Site) → slice_get sites (place / 2) ≡ Some site → slice_get (flat_map both_stuck sites) place ≡ Some (Stuck site (eqb (place % 2) 1))
stuck_at [] place site e = cc
stuck_at (first ∷ sites) zero site e = cc
stuck_at (first ∷ sites) (suc zero) site e = cc
stuck_at (first ∷ sites) (suc (suc place)) site e =
    let half : suc (suc place) / 2 ≡ suc (place / 2) = omega arith in
    let parity : suc (suc place) % 2 ≡ place % 2 = omega arith in
    rw parity (stuck_at sites place site (rw half at e))

pub stuck_of : (sites : List Site) (place : ℕ) (site : Site) (bit : Bool) → slice_get sites place ≡ Some site → slice_get (flat_map both_stuck sites) (2 * place + from_bool bit) ≡ Some (Stuck site bit)
stuck_of sites place site true e =
    let half : (2 * place + 1) / 2 ≡ place = omega arith in
    let parity : (2 * place + 1) % 2 ≡ 1 = omega arith in
    stuck_at sites (2 * place + 1) site (rw half e) ∙ ap (λ n. Some (Stuck site (eqb n 1))) parity
stuck_of sites place site false e =
    let half : (2 * place + 0) / 2 ≡ place = omega arith in
    let parity : (2 * place + 0) % 2 ≡ 0 = omega arith in
    stuck_at sites (2 * place + 0) site (rw half e) ∙ ap (λ n. Some (Stuck site (eqb n 1))) parity

-- the site of the fault with a number
pub site_of : (sites : List Site) (number : ℕ) (site : Site) (bit : Bool) → slice_get (flat_map both_stuck sites) number ≡ Some (Stuck site bit)
    → (place : ℕ) × (slice_get sites place ≡ Some site) × (number ≡ 2 * place + from_bool bit)
site_of [] number site bit e = cc
site_of (first ∷ sites) zero site bit e = let b : from_bool false ≡ from_bool bit = ap from_bool (let same : false ≡ bit = cc in same) in (0, cc, omega (arith, b))
site_of (first ∷ sites) (suc zero) site bit e = let b : from_bool true ≡ from_bool bit = ap from_bool (let same : true ≡ bit = cc in same) in (0, cc, omega (arith, b))
site_of (first ∷ sites) (suc (suc number)) site bit e = let rest = site_of sites number site bit e in (suc rest.0, rest.1, omega (arith, rest.2))

pub never_free : (sites : List Site) (number : ℕ) → slice_get (flat_map both_stuck sites) number ≡ Some Free → ⊥
never_free [] number e = cc
never_free (first ∷ sites) zero e = cc
never_free (first ∷ sites) (suc zero) e = cc
never_free (first ∷ sites) (suc (suc number)) e = never_free sites number e
