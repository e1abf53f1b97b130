use Rattle.std.proofs.Common.{◌∙◌, subst, sym, length, arith, refl}
use Rattle.std.specs.Prelude.{None, Some}
use Rattle.std.proofs.lemmas.Bool.{eqb-true, eqb-false}
use Rattle.net_model.proofs.Wired.{few_pins}
use Rattle.fault_heads.specs.Places.{IsOnlyPlace}
use Rattle.fault_heads.proofs.Destinations.{places_within, none_shown, none_read, reader_within, none_placed, is_only}
use Rattle.fault_heads.proofs.destination.only_destination.Goals as goal

pub returns-then-not-is_empty : goal.returns-then-not-is_empty
returns-then-not-is_empty c =
    none_shown c.args.circuit.now c.wiring-wiring.result.now c.wiring-wiring.ensures c.args.line c.wiring-wiring.result.now.order _ c.showing.result.now refl refl c.showing.ensures
    (eqb-false (length c.showing.result.now) 0 (sym c.if-not-is_empty.ensures))

pub only_reader-requires : goal.only_reader-requires
only_reader-requires c = places_within c.args.circuit.now c.wiring-wiring.result.now c.wiring-wiring.ensures c.args.line c.order.result.now c.readers.result.now c.showing.result.now c.order.ensures c.readers.ensures c.showing.ensures

pub returns-in_default : goal.returns-in_default
returns-in_default c =
    none_read c.args.circuit.now c.wiring-wiring.result.now c.wiring-wiring.ensures c.args.line c.order.result.now c.readers.result.now c.showing.result.now c.order.ensures c.readers.ensures c.showing.ensures c.in_default.ensures

pub gate-requires-clause-from : goal.gate-requires-clause-from
gate-requires-clause-from c =
    (reader_within c.args.circuit.now c.wiring-wiring.result.now c.wiring-wiring.ensures c.args.line c.order.result.now c.readers.result.now c.showing.result.now c.order.ensures c.readers.ensures c.showing.ensures c.in-Some.gate c.in-Some.ensures).0

pub gate-requires-clause-below : goal.gate-requires-clause-below
gate-requires-clause-below c =
    (reader_within c.args.circuit.now c.wiring-wiring.result.now c.wiring-wiring.ensures c.args.line c.order.result.now c.readers.result.now c.showing.result.now c.order.ensures c.readers.ensures c.showing.ensures c.in-Some.gate c.in-Some.ensures).1

pub only_place-requires : goal.only_place-requires
only_place-requires c = rw c.as_slice.ensures (omega (arith, few_pins c.args.circuit.now c.gate.ensures.circuit c.in-Some.gate c.gate.result.now c.gate.ensures.value))

pub returns-in_default-only_place : goal.returns-in_default-only_place
returns-in_default-only_place c =
    let pins = c.as_slice.ensures ∙ sym c.gate.ensures.pins in
    none_placed c.args.circuit.now c.wiring-wiring.result.now c.wiring-wiring.ensures c.args.line c.order.result.now c.readers.result.now c.showing.result.now c.order.ensures c.readers.ensures c.showing.ensures c.in-Some.gate c.in-Some.ensures
    (subst (λ xs. IsOnlyPlace xs c.args.line None) pins c.in_default-only_place.ensures)

pub returns : goal.returns
returns c =
    let pins = c.as_slice.ensures ∙ sym c.gate.ensures.pins in
    is_only c.args.circuit.now c.wiring-wiring.result.now c.wiring-wiring.ensures c.args.line c.order.result.now c.readers.result.now c.showing.result.now c.order.ensures c.readers.ensures c.showing.ensures c.in-Some.gate c.in-Some.ensures
    c.in-Some-only_place.pin (eqb-true (length c.showing.result.now) 0 (sym c.if-not-is_empty.ensures)) (subst (λ xs. IsOnlyPlace xs c.args.line (Some c.in-Some-only_place.pin)) pins c.in-Some-only_place.ensures)
