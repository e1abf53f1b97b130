-- What must hold if a fault has a successor.
use Rattle.std.proofs.Common.{◌≡◌, ℕ, ◌<◌, List, [], ◌∷◌, length, refl, sym, ap, subst}
use Rattle.std.specs.Prelude.{Bool, Option, None, Some, Contains, slice_get, option_map, option_and_then}
use Rattle.std.proofs.lemmas.Option.{slice_get_within, slice_get-get_or}
use Rattle.net_model.specs.declared.gate.Gate.{Gate}
use Rattle.net_model.specs.declared.fault.Site.{Site}
use Rattle.net_model.specs.declared.fault.Site.TheVariants.{Stem, Pin, Position}
use Rattle.net_model.specs.declared.fault.Fault.{Fault}
use Rattle.net_model.specs.declared.fault.Fault.TheVariants.{Stuck}
use Rattle.net_model.specs.Circuit.{Circuit, gate_at, pins_of, Feeds}
use Rattle.net_model.specs.Fault.{IsFaultOf}
use Rattle.net_model.specs.FaultList.{destinations}
use Rattle.net_model.specs.Collapse.{carried_value, carried_fault, entered_gate, only_gate, successor}
use Rattle.std.proofs.lemmas.List.Elements.{All-contains}
use Rattle.fault_collapse.proofs.Members.{Contains-head, Contains-slice_get}
use Rattle.fault_collapse.proofs.Destinations.{ReadsLine, destinations_read, driven}

-- a pin that alone decides its gate, and the value that it puts there
pub record IsCarried (c : Circuit) (line : ℕ) (bit : Bool) (next : Fault) : Type 0 where
  pub gate : Gate
  pub value : Bool
  pub drives : gate_at c line ≡ Some gate
  pub carries : carried_value gate.kind (length gate.pins) bit ≡ Some value
  pub next_is : next ≡ Stuck (Stem line) value

carried_value_from : (c : Circuit) (line : ℕ) (bit : Bool) (next : Fault) (gate : Gate) (found : Option Bool) → gate_at c line ≡ Some gate → carried_value gate.kind (length gate.pins) bit ≡ found
    → option_map (Stuck (Stem line)) found ≡ Some next → IsCarried c line bit next
carried_value_from c line bit next gate None d v e = cc
carried_value_from c line bit next gate (Some value) d v e = record { gate = gate; value = value; drives = d; carries = v; next_is = let same : Stuck (Stem line) value ≡ next = cc in sym same }

carried_gate_from : (c : Circuit) (line : ℕ) (bit : Bool) (next : Fault) (found : Option Gate) → gate_at c line ≡ found
    → option_map (Stuck (Stem line)) (option_and_then (λ gate. carried_value gate.kind (length gate.pins) bit) found) ≡ Some next → IsCarried c line bit next
carried_gate_from c line bit next None d e = cc
carried_gate_from c line bit next (Some gate) d e = carried_value_from c line bit next gate (carried_value gate.kind (length gate.pins) bit) d refl e

pub is_carried : (c : Circuit) (line : ℕ) (bit : Bool) (next : Fault) → carried_fault c bit line ≡ Some next → IsCarried c line bit next
unfolding carried_fault
is_carried c line bit next e = carried_gate_from c line bit next (gate_at c line) refl e

-- the pin that is a line's sole destination
pub sole_pin : (sites : List Site) (gate : ℕ) → only_gate sites ≡ Some gate → (pin : ℕ) × (sites ≡ Pin gate pin ∷ [])
sole_pin [] gate e = cc
sole_pin (Stem at ∷ []) gate e = cc
sole_pin (Pin at pin ∷ []) gate e = let same : at ≡ gate = cc in (pin, ap (λ g. Pin g pin ∷ []) same)
sole_pin (Position at ∷ []) gate e = cc
sole_pin (Stem at ∷ site ∷ sites) gate e = cc
sole_pin (Pin at pin ∷ site ∷ sites) gate e = cc
sole_pin (Position at ∷ site ∷ sites) gate e = cc

pub sole_pin_reads : (c : Circuit) (line gate pin : ℕ) → destinations c line ≡ Pin gate pin ∷ [] → slice_get (pins_of c gate) pin ≡ Some line
sole_pin_reads c line gate pin sole =
    All-contains (ReadsLine c line) (destinations c line) (Pin gate pin) (destinations_read c line) (subst (λ sites. Contains sites (Pin gate pin)) (sym sole) (Contains-head (Pin gate pin) []))

-- The pin that a fault with a successor enters: it is the fault's site, or the sole destination of the fault's stem.
pub data Enters (c : Circuit) (gate pin : ℕ) : Site → Type 0 where
  by_pin : Enters c gate pin (Pin gate pin)
  by_stem : {line : ℕ} → destinations c line ≡ Pin gate pin ∷ [] → Enters c gate pin (Stem line)

pub record IsStep (c : Circuit) (site : Site) (bit : Bool) (next : Fault) : Type 0 where
  pub line : ℕ
  pub pin : ℕ
  pub enters : Enters c line pin site
  pub carried : IsCarried c line bit next

stem_step_from : (c : Circuit) (line : ℕ) (bit : Bool) (next : Fault) (found : Option ℕ) → only_gate (destinations c line) ≡ found → option_and_then (carried_fault c bit) found ≡ Some next → IsStep c (Stem line) bit next
stem_step_from c line bit next None o e = cc
stem_step_from c line bit next (Some gate) o e =
    let sole = sole_pin (destinations c line) gate o in
    record { line = gate; pin = sole.0; enters = by_stem sole.1; carried = is_carried c gate bit next e }

pub step_of : (c : Circuit) (site : Site) (bit : Bool) (next : Fault) → successor c (Stuck site bit) ≡ Some next → IsStep c site bit next
unfolding successor entered_gate
step_of c (Stem line) bit next e = stem_step_from c line bit next (only_gate (destinations c line)) refl e
step_of c (Pin gate pin) bit next e = record { line = gate; pin = pin; enters = by_pin; carried = is_carried c gate bit next e }
step_of c (Position at) bit next e = cc

-- ---- the line whose gate is entered

module _ (c : Circuit) where
  -- the pin is one of the gate's
  pub entered_within : (gate pin : ℕ) (site : Site) (bit : Bool) → IsFaultOf c (Stuck site bit) → Enters c gate pin site → pin < length (pins_of c gate)
  entered_within gate pin (Pin _ _) bit is by_pin = is
  entered_within gate pin (Position _) bit is enters = elim enters [ ]
  entered_within gate pin (Stem line) bit is (by_stem sole) = slice_get_within (pins_of c gate) pin line (sole_pin_reads c line gate pin sole)

  -- the gate reads a line
  pub entered_feeds : (gate pin : ℕ) (site : Site) (bit : Bool) → IsFaultOf c (Stuck site bit) → Enters c gate pin site → (read : ℕ) × Feeds c read gate
  entered_feeds gate pin site bit is enters =
      let there = slice_get-get_or (pins_of c gate) pin 0 (entered_within gate pin site bit is enters) in
      (_, Contains-slice_get (pins_of c gate) pin _ there)

  -- a successor is a fault of the circuit
  pub carried_stands : (line : ℕ) (bit : Bool) (next : Fault) → IsCarried c line bit next → IsFaultOf c next
  carried_stands line bit next is = subst (IsFaultOf c) (sym is.next_is) (driven c line is.gate is.drives).1
