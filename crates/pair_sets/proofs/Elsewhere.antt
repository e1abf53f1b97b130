-- Lines at which two faults stick nothing.
use Rattle.std.proofs.Common.{◌≡◌, ℕ, refl, sym, ◌∙◌, ap}
use Rattle.std.specs.Prelude.{false, Some, None, ◌==◌}
use Rattle.std.specs.Option.{option_map_or}
use Rattle.std.proofs.lemmas.Bool.{eq-eqb, or_parts}
use Rattle.net_model.specs.declared.fault.Fault.{Fault}
use Rattle.net_model.specs.Fault.{stuck_stem, stuck_pin}
use Rattle.net_model.specs.Scope.{first_changed}
use Rattle.net_model.proofs.Elements.{true_false}
use Rattle.net_model.proofs.FirstChanged.{stem_elsewhere, pin_elsewhere}
use Rattle.fault_list.specs.Scope.{is_first_changed, begins_at}
use Rattle.pair_sets.specs.PairSet.{PairSet, forced_pairs}
use Rattle.pair_sets.proofs.GateLemmas.{free_is}

not_first : (f : Fault) (line : ℕ) → is_first_changed f line ≡ false → first_changed f ≡ Some line → ⊥
not_first f line other e = true_false (is_first_changed f line) (ap (λ o. option_map_or (λ from. from == line) o false) e ∙ eq-eqb line line refl) other

-- The two faults stick neither the stem of the line nor a pin of its gate.
pub record StickNothing (f g : Fault) (line : ℕ) : Type 0 where
  pub first_stem : stuck_stem f line ≡ None
  pub second_stem : stuck_stem g line ≡ None
  pub first_pins : (pin : ℕ) → stuck_pin f line pin ≡ None
  pub second_pins : (pin : ℕ) → stuck_pin g line pin ≡ None

pub stick_nothing : (f g : Fault) (line : ℕ) → begins_at f g line ≡ false → StickNothing f g line
stick_nothing f g line other =
    let parts = or_parts (is_first_changed f line) (is_first_changed g line) other in
    record {
      first_stem = stem_elsewhere f line (not_first f line parts.0);
      second_stem = stem_elsewhere g line (not_first g line parts.1);
      first_pins = λ pin. pin_elsewhere f line pin (not_first f line parts.0);
      second_pins = λ pin. pin_elsewhere g line pin (not_first g line parts.1);
    }

module _ (f g : Fault) (line : ℕ) (other : begins_at f g line ≡ false) (pairs : PairSet) where
  pub stem_unchanged : pairs ≡ forced_pairs (stuck_stem f line) (stuck_stem g line) pairs
  stem_unchanged =
      let nothing = stick_nothing f g line other in
      free_is pairs ∙ sym (λ i. forced_pairs (nothing.first_stem i) (nothing.second_stem i) pairs)

  pub pin_unchanged : (pin : ℕ) → pairs ≡ forced_pairs (stuck_pin f line pin) (stuck_pin g line pin) pairs
  pin_unchanged pin =
      let nothing = stick_nothing f g line other in
      free_is pairs ∙ sym (λ i. forced_pairs (nothing.first_pins pin i) (nothing.second_pins pin i) pairs)
