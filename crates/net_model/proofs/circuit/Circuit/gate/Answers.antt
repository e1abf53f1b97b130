use Rattle.std.proofs.Common.{◌≡◌, ◌-◌, ◌<◌, ◌≤◌, ℕ, Some, [], get_or, false, length, refl, sym, ap, subst, arith}
use Rattle.std.specs.Prelude.{All, IsTrue, nat_lt, slice_get}
use Rattle.std.specs.Option.{option_map_or}
use Rattle.std.proofs.lemmas.Bool.Decides.{nat_tests}
use Rattle.std.proofs.lemmas.Option.{slice_get_read}
use Rattle.net_model.specs.declared.circuit.Circuit.TheInside.{Inside}
use Rattle.net_model.specs.declared.gate.Gate.{Gate}
use Rattle.net_model.specs.Circuit.{Circuit, IsCircuit, circuit_with, gate_at, line_count}
use Rattle.net_model.specs.Gate.{takes_pins}
use Rattle.net_model.proofs.circuit.Circuit.gate.Goals as goal

abbrev shown : Inside → Circuit
shown a = circuit_with a.sources a.gates.items a.positions.items

sources_are : (a : Inside) (circuit : Circuit) → shown a ≡ circuit → a.sources ≡ circuit.sources
sources_are a circuit view = ap (λ (c : Circuit). c.sources) view

inside : (a : Inside) (circuit : Circuit) (line : ℕ) → shown a ≡ circuit → circuit.sources ≤ line → line < line_count circuit → line - a.sources < length a.gates.items
inside a circuit line view from below = omega (arith, sources_are a circuit view, ap (λ (c : Circuit). length c.gates) view, from, below)

gate_is : (a : Inside) (circuit : Circuit) (line : ℕ) (gate : Gate) → shown a ≡ circuit → circuit.sources ≤ line → line < line_count circuit → gate ≡ get_or a.gates.items (line - a.sources) gate → gate_at circuit line ≡ Some gate
gate_is a circuit line gate view from below is =
    let found : slice_get a.gates.items (line - a.sources) ≡ Some gate = slice_get_read a.gates.items (length a.gates.items) (line - a.sources) gate refl (inside a circuit line view from below) is in
    let same : a.sources ≤ line = omega (arith, sources_are a circuit view, from) in
    let above : nat_lt line a.sources ≡ false = grind (arith, nat_tests) in
    subst (λ (c : Circuit). gate_at c line ≡ Some gate) view (rw above found)

pub overflow_sub-line : goal.overflow_sub-line
overflow_sub-line c = omega (arith, sources_are c.self.inside c.args.self.now c.self.view_is, c.requires.from)

pub index-requires : goal.index-requires
index-requires c = omega (arith, inside c.self.inside c.args.self.now c.args.line c.self.view_is c.requires.from c.requires.below, c.self.inside.gates.ok.0)

pub returns-clause-value : goal.returns-clause-value
returns-clause-value c = gate_is c.self.inside c.args.self.now c.args.line c.index.result.now c.self.view_is c.requires.from c.requires.below c.index.ensures

pub returns-clause-pins : goal.returns-clause-pins
returns-clause-pins c = ap (λ o. option_map_or (λ (gate : Gate). gate.pins) o []) (gate_is c.self.inside c.args.self.now c.args.line c.index.result.now c.self.view_is c.requires.from c.requires.below c.index.ensures)

pub returns-clause-inside : goal.returns-clause-inside
returns-clause-inside c =
    let a = c.self.inside in
    let gate = c.index.result.now in
    let at = inside a c.args.self.now c.args.line c.self.view_is c.requires.from c.requires.below in
    subst (λ (circuit : Circuit). All (λ pin. pin < line_count circuit) gate.pins) c.self.view_is
    (subst (λ (g : Gate). All (λ pin. pin < line_count (shown a)) g.pins) (sym c.index.ensures) (c.self.invariant.circuit.pins (c.args.line - a.sources) gate at))

pub returns-clause-arity : goal.returns-clause-arity
returns-clause-arity c =
    let a = c.self.inside in
    let at = inside a c.args.self.now c.args.line c.self.view_is c.requires.from c.requires.below in
    subst (λ (g : Gate). IsTrue (takes_pins g.kind (length g.pins))) (sym c.index.ensures) (c.self.invariant.circuit.arities (c.args.line - a.sources) c.index.result.now at)

pub returns-clause-circuit : goal.returns-clause-circuit
returns-clause-circuit c = subst (λ (circuit : Circuit). IsCircuit circuit) c.self.view_is c.self.invariant.circuit
