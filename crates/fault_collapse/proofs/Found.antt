-- The numbers of successors, found one by one.
use Rattle.std.proofs.Common.{◌≡◌, ◌∙◌, ℕ, ◌+◌, ◌<◌, ◌≤◌, Bool, List, [], ◌∷◌, ◌++◌, length, get_or, refl, sym, ap, arith, subst, inl, inr, length-append}
use Rattle.std.specs.Prelude.{Option, None, Some, slice_get, option_map, option_and_then}
use Rattle.std.proofs.lemmas.Bool.{cases_eq}
use Rattle.std.proofs.lemmas.Option.{slice_get_within}
use Rattle.std.proofs.lemmas.List.{get_or_push, get_or_append_left}
use Rattle.std.proofs.lemmas.List.Elements.{Contains-get_or}
use Rattle.net_model.specs.declared.gate.Gate.{Gate}
use Rattle.net_model.specs.declared.fault.Site.{Site}
use Rattle.net_model.specs.declared.fault.Site.TheVariants.{Stem, Pin, Position}
use Rattle.net_model.specs.declared.fault.Fault.{Fault}
use Rattle.net_model.specs.declared.fault.Fault.TheVariants.{Free, Stuck}
use Rattle.net_model.specs.Circuit.{Circuit, line_count, gate_at, pins_of}
use Rattle.net_model.specs.Fault.{IsFaultOf}
use Rattle.net_model.specs.FaultList.{destinations, faults, fault_count}
use Rattle.net_model.specs.Collapse.{carried_value, carried_fault, entered_gate, successor}
use Rattle.net_model.proofs.Orders.{reader_is_gate}
use Rattle.fault_collapse.specs.Forest.{IsNumberOf, AreSuccessors}
use Rattle.fault_collapse.proofs.Members.{Contains-slice_get}
use Rattle.fault_collapse.proofs.Steps.{sole_pin, sole_pin_reads}

module _ (c : Circuit) where
  -- the option is the number of a fault in a list of faults, if the fault is there
  abbrev pub IsFoundIn : List Fault → Fault → Option ℕ → Type 0
  IsFoundIn listed fault found = (number : ℕ) → (found ≡ Some number → slice_get listed number ≡ Some fault) × (slice_get listed number ≡ Some fault → found ≡ Some number)

  pub is_number : (listed : List Fault) (fault : Fault) (found : Option ℕ) → listed ≡ faults c → IsFoundIn listed fault found → ((number : ℕ) × (slice_get (faults c) number ≡ Some fault)) → IsNumberOf c (Some fault) found
  is_number listed fault None same is (number, there) = let clash = (is number).1 (ap (λ xs. slice_get xs number) same ∙ there) in cc
  is_number listed fault (Some number) same is has = ap (λ xs. slice_get xs number) (sym same) ∙ (is number).0 refl

  -- ---- what a gate carries

  carried_is : (line : ℕ) (bit : Bool) (gate : Gate) (value : Option Bool) → gate_at c line ≡ Some gate → value ≡ carried_value gate.kind (length gate.pins) bit → carried_fault c bit line ≡ option_map (Stuck (Stem line)) value
  unfolding carried_fault
  carried_is line bit gate value drives e =
      ap (λ o. option_map (Stuck (Stem line)) (option_and_then (λ (g : Gate). carried_value g.kind (length g.pins) bit) o)) drives ∙ ap (option_map (Stuck (Stem line))) (sym e)

  pub none_carried : (line : ℕ) (bit : Bool) (gate : Gate) → gate_at c line ≡ Some gate → None ≡ carried_value gate.kind (length gate.pins) bit → IsNumberOf c (carried_fault c bit line) None
  none_carried line bit gate drives e = subst (λ o. IsNumberOf c o None) (sym (carried_is line bit gate None drives e)) tt

  pub some_carried : (line : ℕ) (bit : Bool) (gate : Gate) (value : Bool) (found : Option ℕ) → gate_at c line ≡ Some gate → Some value ≡ carried_value gate.kind (length gate.pins) bit → IsNumberOf c (Some (Stuck (Stem line) value)) found
      → IsNumberOf c (carried_fault c bit line) found
  some_carried line bit gate value found drives e is = subst (λ o. IsNumberOf c o found) (sym (carried_is line bit gate (Some value) drives e)) is

  -- ---- which gate a fault enters

  -- the gate that a fault enters is one of the circuit's gates
  pub gate_inside : (site : Site) (bit : Bool) (gate : ℕ) → IsFaultOf c (Stuck site bit) → Some gate ≡ entered_gate c site → (c.sources ≤ gate) × (gate < line_count c)
  unfolding entered_gate
  gate_inside (Stem line) bit gate is e =
      let only = sole_pin (destinations c line) gate (sym e) in
      reader_is_gate c line gate (Contains-slice_get (pins_of c gate) only.0 line (sole_pin_reads c line gate only.0 only.1))
  gate_inside (Pin at pin) bit gate is e =
      let same : at ≡ gate = cc in
      subst (λ g. (c.sources ≤ g) × (g < line_count c)) same (reader_is_gate c (get_or (pins_of c at) pin 0) at (Contains-get_or (pins_of c at) pin 0 is))
  gate_inside (Position at) bit gate is e = cc

  pub no_gate : (site : Site) (bit : Bool) → None ≡ entered_gate c site → IsNumberOf c (successor c (Stuck site bit)) None
  unfolding successor
  no_gate site bit e = subst (λ o. IsNumberOf c (option_and_then (carried_fault c bit) o) None) e tt

  pub one_gate : (site : Site) (bit : Bool) (gate : ℕ) (found : Option ℕ) → Some gate ≡ entered_gate c site → IsNumberOf c (carried_fault c bit gate) found → IsNumberOf c (successor c (Stuck site bit)) found
  unfolding successor
  one_gate site bit gate found e is = subst (λ o. IsNumberOf c (option_and_then (carried_fault c bit) o) found) e is

  pub free_none : IsNumberOf c (successor c Free) None
  unfolding successor
  free_none = tt

  -- ---- one number after another

  -- the first numbers have the numbers of their successors
  pub record FoundBelow (count : ℕ) (found : List (Option ℕ)) : Type 0 where
    pub whole : length found ≡ count
    pub each : (number : ℕ) (fault : Fault) → number < count → slice_get (faults c) number ≡ Some fault → IsNumberOf c (successor c fault) (get_or found number None)

  pub none_found : (found : List (Option ℕ)) → found ≡ [] → FoundBelow 0 found
  none_found found e = record { whole = ap length e; each = λ number fault below listed. absurd (omega (arith, below)) }

  pub all_found : (count : ℕ) (found : List (Option ℕ)) → count ≡ fault_count c → FoundBelow count found → AreSuccessors c found
  all_found count found all before = record { whole = before.whole ∙ all; each = λ number fault listed. before.each number fault (omega (arith, slice_get_within (faults c) number fault listed, all)) listed }

  pub more_found : (count : ℕ) (found : List (Option ℕ)) (next : Option ℕ) (here : Fault) → slice_get (faults c) count ≡ Some here → IsNumberOf c (successor c here) next → FoundBelow count found → FoundBelow (count + 1) (found ++ next ∷ [])
  more_found count found next here there is before = record {
    whole = length-append found (next ∷ []) ∙ ap (λ n. n + 1) before.whole;
    each = λ number fault below listed.
        elim (cases_eq number count) [
          | inl same ↦
              let fault_is : here ≡ fault = let s : Some here ≡ Some fault = sym there ∙ (ap (slice_get (faults c)) (sym same) ∙ listed) in cc in
              let at : get_or (found ++ next ∷ []) number None ≡ next = get_or_push found next None number (before.whole ∙ sym same) in
              subst (IsNumberOf c (successor c fault)) (sym at) (subst (λ f. IsNumberOf c (successor c f) next) fault_is is)
          | inr apart ↦
              let at : get_or (found ++ next ∷ []) number None ≡ get_or found number None = get_or_append_left found (next ∷ []) None number (omega (arith, below, apart, before.whole)) in
              subst (IsNumberOf c (successor c fault)) (sym at) (before.each number fault (omega (arith, below, apart)) listed)
        ];
  }
