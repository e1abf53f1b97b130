use Rattle.std.proofs.Common.{◌≡◌, ◌∙◌, ℕ, ◌+◌, List, length, get_or, sym, ap, arith, subst}
use Rattle.std.specs.Prelude.{Bool, true, false, not, IfSome, None, Some, Option, is_some, ◌||◌}
use Rattle.net_model.specs.Circuit.{IsCircuit, Feeds}
use Rattle.net_model.proofs.Wired.{few_pins}
use Rattle.distinguish_search.specs.Open.{IsLineOpen}
use Rattle.distinguish_search.proofs.Walks.{NoneSeveral, pin_found, pin_passed, pins_are, some_several}
use Rattle.distinguish_search.proofs.step.open_pin.Goals as goal
use Rattle.distinguish_search.proofs.step.open_pin.Goals.{then-has_several+then-is_none-is_heavier, then-has_several+else-is_none-is_heavier, else-has_several}

no_some : (x : ℕ) → ◌≡◌ {A = Option ℕ} (Some x) None → ⊥
no_some x e = cc

pub overflow_cast-pin : goal.overflow_cast-pin
overflow_cast-pin c = omega (arith, few_pins c.circuit.result.now c.gate.ensures.circuit c.args.line c.gate.result.now c.gate.ensures.value, ap length c.as_slice-pins.ensures)

-- a pin that isn't taken comes after one that is
found_before : (found : Option ℕ) (none heavier : Bool) → is_some found ≡ not none → (none || heavier) ≡ false → found ≡ None → ⊥
found_before None true heavier is e same = cc
found_before None false heavier is e same = cc
found_before (Some read) none heavier is e same = cc

pub loop-pin-preserved : goal.loop-pin-preserved
loop-pin-preserved c =
    let sim = c.args.sim.now in
    let pins = c.as_slice-pins.result.now in
    let pin = c.loop-pin.pin in
    let circuit : IsCircuit sim.circuit = c.circuit.ensures.circuit in
    let so_far : Option ℕ → Type 0 = λ found. IfSome found (λ read. Feeds sim.circuit read c.args.line × IsLineOpen sim.circuit sim.f sim.g sim.cube read) × (found ≡ None → NoneSeveral sim.circuit sim.f sim.g sim.cube c.args.line pins (pin + 1)) in
    elim c.if-has_several.branch [
      | then-has_several+then-is_none-is_heavier w ↦ subst so_far (sym w.found-is) (
        pin_found sim.circuit sim.f sim.g sim.cube c.args.line pin pins c.pin_pairs-pairs.result circuit c.requires.open
            (pins_are sim.circuit c.circuit.result.now c.args.line pins c.gate.result.now.pins c.circuit.ensures.value c.as_slice-pins.ensures c.gate.ensures.pins)
            c.loop-pin-test.true c.pin_pairs-pairs.ensures (sym c.has_several.ensures ∙ w.if-has_several.true),
        λ none. absurd (no_some (get_or pins pin 0) none),
      )
      | then-has_several+else-is_none-is_heavier w ↦ subst so_far (sym w.found-is) (
        c.loop-pin.invariant.0,
        λ none. absurd (found_before c.loop-pin.found w.is_none.result _ w.is_none.ensures w.if-is_none-is_heavier.false none),
      )
      | else-has_several w ↦ subst so_far (sym w.found-is) (
        c.loop-pin.invariant.0,
        λ none. pin_passed sim.circuit sim.f sim.g sim.cube c.args.line pin pins c.pin_pairs-pairs.result circuit (c.loop-pin.invariant.1 none) c.pin_pairs-pairs.ensures (sym c.has_several.ensures ∙ w.if-has_several.false),
      )
    ]

pub unreachable-requires : goal.unreachable-requires
unreachable-requires c =
    let sim = c.args.sim.now in
    let pins = c.as_slice-pins.result.now in
    let all : c.loop-pin.pin ≡ length pins = omega (arith, c.loop-pin.auto.pin-end, c.loop-pin-test.false) in
    some_several sim.circuit sim.f sim.g sim.cube c.args.line c.requires.open c.requires.gate
    (subst (λ (ps : List ℕ). NoneSeveral sim.circuit sim.f sim.g sim.cube c.args.line ps (length ps))
    (pins_are sim.circuit c.circuit.result.now c.args.line pins c.gate.result.now.pins c.circuit.ensures.value c.as_slice-pins.ensures c.gate.ensures.pins)
    (subst (NoneSeveral sim.circuit sim.f sim.g sim.cube c.args.line pins) all (c.loop-pin.invariant.1 c.in-None.is)))
