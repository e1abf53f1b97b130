-- Two numbers, or two faults, of one circuit.
use Rattle.std.proofs.Common.{◌≡◌, ◌∙◌, ℕ, zero, suc, ◌+◌, ◌<◌, Bool, true, false, List, length, get_or, refl, sym, ap, arith}
use Rattle.std.specs.Prelude.{Some, unwrap_or, slice_get, flat_map, is_some, ◌||◌}
use Rattle.std.specs.List.{enumerate_from}
use Rattle.std.proofs.lemmas.List.{get_or-map}
use Rattle.std.proofs.lemmas.List.FromFn.{length-enumerate_from, get_or-enumerate_from}
use Rattle.net_model.specs.declared.fault.Fault.{Fault}
use Rattle.net_model.specs.declared.fault.Fault.TheVariants.{Free, Stuck}
use Rattle.net_model.specs.Circuit.{Circuit, IsCircuit, all_lines}
use Rattle.net_model.specs.Fault.{stuck_position, readings}
use Rattle.net_model.specs.Answer.{Agrees, bit_at, shown_bits}
use Rattle.net_model.specs.FaultList.{sites_of_line, faults}
use Rattle.net_model.specs.Scope.{is_split, is_reached}
use Rattle.net_model.proofs.Elements.{none_is}
use Rattle.net_model.proofs.ScopeLaws.{same_unsplit}
use Rattle.fault_list.proofs.OnePlace.{one_place, Apart-sites}
use Rattle.fault_list.proofs.Stuck.{site_of, never_free}

pub one_number : (c : Circuit) (m n : ℕ) (f : Fault) → slice_get (faults c) m ≡ Some f → slice_get (faults c) n ≡ Some f → m ≡ n
unfolding faults
one_number c zero zero f d e = refl
one_number c zero (suc n) Free d e = absurd (never_free (flat_map (sites_of_line c) (all_lines c)) n e)
one_number c zero (suc n) (Stuck site bit) d e = cc
one_number c (suc m) zero Free d e = absurd (never_free (flat_map (sites_of_line c) (all_lines c)) m d)
one_number c (suc m) zero (Stuck site bit) d e = cc
one_number c (suc m) (suc n) Free d e = absurd (never_free (flat_map (sites_of_line c) (all_lines c)) m d)
one_number c (suc m) (suc n) (Stuck site bit) d e =
    let sites = flat_map (sites_of_line c) (all_lines c) in
    let first = site_of sites m site bit d in
    let second = site_of sites n site bit e in
    let same = one_place sites (Apart-sites c) first.0 second.0 site first.1 second.1 in
    omega (arith, first.2, second.2, same)

-- what one of the readers gets
pub at_reading : (read : ℕ → ℕ → Bool) (lines : List ℕ) (at : ℕ) → at < length lines → bit_at (readings read lines) at ≡ read at (get_or lines at 0)
unfolding readings
at_reading read lines at h =
    get_or-map (λ (x : ℕ × ℕ). read x.0 x.1) (enumerate_from 0 lines) at (0, 0) false (omega (arith, length-enumerate_from 0 lines))
    ∙ (ap (λ (x : ℕ × ℕ). read x.0 x.1) (get_or-enumerate_from 0 lines at (0, 0) h) ∙ ap (λ n. read n (get_or lines at 0)) (let e : 0 + at ≡ at = omega arith in e))

or_none : (a b d : Bool) → ((a || b) || d) ≡ false → (a ≡ false) × (b ≡ false) × (d ≡ false)
or_none true b d e = cc
or_none false true d e = cc
or_none false false d e = (refl, refl, e)

-- A position that isn't reached shows the same under both faults.
pub same_unreached : (c : Circuit) (w : IsCircuit c) (f g : Fault) (v x y : List Bool) → Agrees c f v x → Agrees c g v y → (at : ℕ) → at < length c.positions → is_reached c f g at ≡ false
    → bit_at (shown_bits c f x) at ≡ bit_at (shown_bits c g y) at
unfolding is_reached
same_unreached c w f g v x y a b at h e =
    let line = get_or c.positions at 0 in
    let none = or_none (is_split c f g line) (is_some (stuck_position f at)) (is_some (stuck_position g at)) e in
    let same : bit_at x line ≡ bit_at y line = same_unsplit c w f g v x y a b line (w.positions at 0 h) none.0 in
    at_reading (λ place l. unwrap_or (stuck_position f place) (bit_at x l)) c.positions at h
    ∙ (ap (λ o. unwrap_or o (bit_at x line)) (none_is (stuck_position f at) none.1)
    ∙ (same
    ∙ (ap (λ o. unwrap_or o (bit_at y line)) (sym (none_is (stuck_position g at) none.2))
    ∙ sym (at_reading (λ place l. unwrap_or (stuck_position g place) (bit_at y l)) c.positions at h))))
