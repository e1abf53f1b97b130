use Rattle.std.proofs.Common.{◌≡◌, ◌∙◌, ◌<◌, ◌≤◌, ℕ, List, [], length, arith, ap, sym, subst}
use Rattle.std.specs.Prelude.{All, Bool, IsTrue, Option, Some, is_none}
use Rattle.std.proofs.lemmas.List.Elements.{All-cons}
use Rattle.net_model.specs.declared.fault.Fault.{Fault}
use Rattle.net_model.specs.declared.gate.Gate.{Gate}
use Rattle.net_model.specs.Circuit.{Circuit, gate_at, pins_of, line_count}
use Rattle.net_model.specs.Fault.{stuck_stem}
use Rattle.net_model.specs.Gate.{takes_pins}
use Rattle.net_model.proofs.SetSoFar.{gate_at-source}
use Rattle.net_model.proofs.Wired.{few_pins}
use Rattle.clause_pool.specs.Literal.{Literal}
use Rattle.clause_pool.specs.Clauses.{Clause}
use Rattle.clause_pool.specs.Proper.{IsVariable}
use Rattle.pair_miter.specs.Operand.{Operand}
use Rattle.pair_miter.specs.Adds.{Adds, KeepsClauses, WritesClauses}
use Rattle.pair_miter.specs.Marks.{IsOperand, AreHelpers}
use Rattle.pair_miter.specs.Miter.{copy_clauses, gate_operands, tidy}
use Rattle.pair_miter.specs.Rows.{variables}
use Rattle.pair_miter.specs.Variables.{first_helper, variable_count}
use Rattle.net_model.proofs.Errors.{on_ok}
use Rattle.pair_miter.proofs.AddSteps.{adds_none, keeps_all, writes_err}
use Rattle.pair_miter.proofs.Bounds.{few_variables_of}
use Rattle.pair_miter.proofs.LineClauses.{clauses_of_stuck, clauses_of_source, rows_of_driven}
use Rattle.pair_miter.proofs.Numbers.{variable_within, helpers_of_stuck, helpers_of_source, first_helper-below, few_of_parts}
use Rattle.pair_miter.proofs.Operands.{length-gate_operands, pins_relevant, operands_within, helpers_within}
use Rattle.pair_miter.proofs.TidyParts.{tidy_none}
use Rattle.pair_miter.proofs.writer.Writer.write_copy.Goals as goal

-- the stem of a copy and the gate of a line, as the calls return them
stem : (line : ℕ) {fault given : Fault} {asked is : Option Bool} → given ≡ fault → asked ≡ stuck_stem given line → asked ≡ is → stuck_stem fault line ≡ is
stem line same told is = ap (λ fault. stuck_stem fault line) (sym same) ∙ (sym told ∙ is)

gate_there : (line : ℕ) {given circuit : Circuit} {gate : Gate} → given ≡ circuit → gate_at given line ≡ Some gate → gate_at circuit line ≡ Some gate
gate_there line same there = ap (λ (circuit : Circuit). gate_at circuit line) (sym same) ∙ there

-- ---- a stuck stem

pub literal-unit-requires : goal.literal-unit-requires
literal-unit-requires c =
    let p = c.args.numbering.now in
    variable_within p.circuit p.f p.g c.args.side c.args.line c.variable.result c.args.self.now.tidier c.variable.ensures c.requires.variables c.requires.line c.requires.relevant

pub write-requires : goal.write-requires
write-requires c =
    let p = c.args.numbering.now in
    let within : IsVariable c.args.self.now.tidier c.variable.result =
    variable_within p.circuit p.f p.g c.args.side c.args.line c.variable.result c.args.self.now.tidier c.variable.ensures c.requires.variables c.requires.line c.requires.relevant in
    let below = subst (λ (l : Literal). l.variable ≤ c.args.self.now.tidier) (sym c.literal-unit.ensures) within.1 in
    All-cons (λ (l : Literal). l.variable ≤ c.args.self.now.tidier) c.literal-unit.result [] below (λ k d h. absurd (omega (arith, h)))

pub returns-in-Some-clause-written : goal.returns-in-Some-clause-written
returns-in-Some-clause-written c =
    let p = c.args.numbering.now in
    subst (λ (xs : List Clause). WritesClauses c.write.result c.args.pool.now c.write.new.pool (tidy xs)) (sym (clauses_of_stuck p.circuit p.f p.g c.args.side c.args.line (stem c.args.line c.fault.ensures c.stuck_stem.ensures c.in-Some.is) c.variable.ensures c.literal-unit.ensures)) c.write.ensures.written

pub returns-in-Some-clause-helper : goal.returns-in-Some-clause-helper
returns-in-Some-clause-helper c =
    let p = c.args.numbering.now in
    let none = helpers_of_stuck p.circuit p.f p.g c.args.side c.args.line c.requires.copy (ap is_none (stem c.args.line c.fault.ensures c.stuck_stem.ensures c.in-Some.is)) in
    on_ok c.write.result (omega (arith, none))

-- ---- a source

pub returns-then-line-sources-clause-written : goal.returns-then-line-sources-clause-written
returns-then-line-sources-clause-written c =
    let p = c.args.numbering.now in
    let source : c.args.line < p.circuit.sources = omega (arith, c.sources.ensures.value, c.if-line-sources.true, ap (λ (circuit : Circuit). circuit.sources) c.circuit-circuit.ensures.value) in
    let none = clauses_of_source p.circuit p.f p.g c.args.side c.args.line (stem c.args.line c.fault.ensures c.stuck_stem.ensures c.in_default.is) (gate_at-source p.circuit c.args.line source) in
    subst (Adds c.args.pool.now c.args.pool.now) (sym tidy_none ∙ ap tidy (sym none)) (adds_none c.args.pool.now)

pub returns-then-line-sources-clause-helper : goal.returns-then-line-sources-clause-helper
returns-then-line-sources-clause-helper c =
    let p = c.args.numbering.now in
    let source : c.args.line < p.circuit.sources = omega (arith, c.sources.ensures.value, c.if-line-sources.true, ap (λ (circuit : Circuit). circuit.sources) c.circuit-circuit.ensures.value) in
    let none = helpers_of_source p.circuit p.f p.g c.args.side c.args.line c.requires.copy (gate_at-source p.circuit c.args.line source) in
    omega (arith, none)

-- ---- a gate

pub read_pins-requires-clause-few : goal.read_pins-requires-clause-few
read_pins-requires-clause-few c = omega (arith, few_pins c.circuit-circuit.result.now c.gate-gate.ensures.circuit c.args.line c.gate-gate.result.now c.gate-gate.ensures.value)

pub read_pins-requires-clause-relevant : goal.read_pins-requires-clause-relevant
read_pins-requires-clause-relevant c =
    let p = c.args.numbering.now in
    let gate = c.gate-gate.result.now in
    let pins : pins_of p.circuit c.args.line ≡ gate.pins = ap (λ (circuit : Circuit). pins_of circuit c.args.line) (sym c.circuit-circuit.ensures.value) ∙ c.gate-gate.ensures.pins in
    pins_relevant p.circuit p.f p.g c.args.line c.circuit-circuit.ensures.circuit.acyclic gate pins c.requires.relevant

pub returns-in_err-read_pins-clause-written : goal.returns-in_err-read_pins-clause-written
returns-in_err-read_pins-clause-written c =
    let p = c.args.numbering.now in
    writes_err c.from_residual.result c.from_residual.ensures.0 (keeps_all c.args.pool.now (tidy (copy_clauses p.circuit p.f p.g c.args.side c.args.line)))

pub write_gate-requires-clause-output : goal.write_gate-requires-clause-output
write_gate-requires-clause-output c =
    let p = c.args.numbering.now in
    variable_within p.circuit p.f p.g c.args.side c.args.line c.variable-output.result c.args.self.now.tidier c.variable-output.ensures c.requires.variables c.requires.line c.requires.relevant

pub write_gate-requires-clause-operands : goal.write_gate-requires-clause-operands
write_gate-requires-clause-operands c =
    let p = c.args.numbering.now in
    let gate = c.gate-gate.result.now in
    let pins : pins_of p.circuit c.args.line ≡ gate.pins = ap (λ (circuit : Circuit). pins_of circuit c.args.line) (sym c.circuit-circuit.ensures.value) ∙ c.gate-gate.ensures.pins in
    let inside : All (λ read. read < line_count p.circuit) gate.pins = subst (λ (circuit : Circuit). All (λ read. read < line_count circuit) gate.pins) c.circuit-circuit.ensures.value c.gate-gate.ensures.inside in
    let within = operands_within p.circuit p.f p.g c.args.side c.args.line c.circuit-circuit.ensures.circuit.acyclic gate pins inside c.requires.relevant in
    let are : gate_operands p.circuit p.f p.g c.args.side c.args.line c.gate-gate.result.now ≡ c.as_slice.result.now = sym (c.as_slice.ensures.value ∙ c.in_ok-read_pins.ensures) in
    subst (λ (n : ℕ). All (IsOperand n) c.as_slice.result.now) (sym c.requires.variables) (subst (All (IsOperand (variable_count p.circuit p.f p.g))) are within)

pub write_gate-requires-clause-helpers : goal.write_gate-requires-clause-helpers
write_gate-requires-clause-helpers c = λ parity.
    let p = c.args.numbering.now in
    let gate = c.gate-gate.result.now in
    let within = helpers_within p.circuit p.f p.g c.args.side c.args.line c.requires.copy c.requires.line c.requires.relevant gate (gate_there c.args.line c.circuit-circuit.ensures.value c.gate-gate.ensures.value) (ap is_none (stem c.args.line c.fault.ensures c.stuck_stem.ensures c.in_default.is)) parity in
    let are : gate_operands p.circuit p.f p.g c.args.side c.args.line c.gate-gate.result.now ≡ c.as_slice.result.now = sym (c.as_slice.ensures.value ∙ c.in_ok-read_pins.ensures) in
    subst (λ (n : ℕ). AreHelpers n c.args.self.now.helper (length (variables c.as_slice.result.now))) (sym c.requires.variables)
    (subst (λ (h : ℕ). AreHelpers (variable_count p.circuit p.f p.g) h (length (variables c.as_slice.result.now))) (sym c.requires.helper)
    (subst (λ (ops : List Operand). AreHelpers (variable_count p.circuit p.f p.g) (first_helper p.circuit p.f p.g c.args.side c.args.line) (length (variables ops))) are within))

pub write_gate-requires-clause-pins : goal.write_gate-requires-clause-pins
write_gate-requires-clause-pins c =
    let p = c.args.numbering.now in
    let gate = c.gate-gate.result.now in
    let many : length c.as_slice.result.now ≡ length gate.pins = ap length (c.as_slice.ensures.value ∙ c.in_ok-read_pins.ensures) ∙ length-gate_operands p.circuit p.f p.g c.args.side c.args.line gate in
    subst (λ (n : ℕ). IsTrue (takes_pins gate.kind n)) (sym many) c.gate-gate.ensures.arity

pub overflow_add-self : goal.overflow_add-self
overflow_add-self c =
    let p = c.args.numbering.now in
    let below = first_helper-below p.circuit p.f p.g c.args.side c.args.line c.requires.copy c.requires.line c.requires.relevant in
    omega (arith, c.copy_helpers.ensures, c.requires.helper, below, few_of_parts p.circuit p.f p.g, few_variables_of p.circuit p.f p.g c.circuit-circuit.ensures.circuit)

pub returns-in_err-write_gate-clause-written : goal.returns-in_err-write_gate-clause-written
returns-in_err-write_gate-clause-written c =
    let p = c.args.numbering.now in
    let rows = rows_of_driven p.circuit p.f p.g c.args.side c.args.line (stem c.args.line c.fault.ensures c.stuck_stem.ensures c.in_default.is) (gate_there c.args.line c.circuit-circuit.ensures.value c.gate-gate.ensures.value)
    c.variable-output.ensures c.requires.helper (c.as_slice.ensures.value ∙ c.in_ok-read_pins.ensures) in
    writes_err c.from_residual-in_err-write_gate.result c.from_residual-in_err-write_gate.ensures.0 (subst (λ (xs : List Clause). KeepsClauses c.args.pool.now c.write_gate.new.pool (tidy xs)) (sym rows) c.in_err-write_gate.ensures.written)

pub returns-clause-written : goal.returns-clause-written
returns-clause-written c =
    let p = c.args.numbering.now in
    let rows = rows_of_driven p.circuit p.f p.g c.args.side c.args.line (stem c.args.line c.fault.ensures c.stuck_stem.ensures c.in_default.is) (gate_there c.args.line c.circuit-circuit.ensures.value c.gate-gate.ensures.value)
    c.variable-output.ensures c.requires.helper (c.as_slice.ensures.value ∙ c.in_ok-read_pins.ensures) in
    subst (λ (xs : List Clause). Adds c.args.pool.now c.write_gate.new.pool (tidy xs)) (sym rows) c.in_ok-write_gate.ensures.written
