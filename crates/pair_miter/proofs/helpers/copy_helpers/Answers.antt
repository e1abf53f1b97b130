use Rattle.std.proofs.Common.{◌≡◌, ◌∙◌, ◌-◌, ◌<◌, true, false, ap, sym, subst, arith}
use Rattle.std.specs.Prelude.{not, Some, count_by, is_none, if◌then◌else◌}
use Rattle.net_model.specs.declared.fault.Fault.{Fault}
use Rattle.net_model.specs.Circuit.{Circuit, gate_at, line_count}
use Rattle.net_model.specs.Fault.{stuck_stem, stuck_pin, readings}
use Rattle.net_model.proofs.SetSoFar.{gate_at-source}
use Rattle.net_model.proofs.Wired.{few_pins}
use Rattle.pair_miter.specs.Variables.{fault_of, is_parity, free_pins, gate_helpers}
use Rattle.pair_miter.proofs.Numbers.{helpers_of_stuck, helpers_of_source, helpers_of_driven}
use Rattle.pair_miter.proofs.helpers.copy_helpers.Goals as goal

pub returns-then-is_some : goal.returns-then-is_some
returns-then-is_some c =
    let p = c.args.numbering.now in
    let copy = c.args.side in
    let stuck : is_none (stuck_stem (fault_of p.circuit p.f p.g copy) c.args.line) ≡ false =
    ap (λ fault. is_none (stuck_stem fault c.args.line)) (sym c.fault-fault.ensures) ∙ (ap is_none (sym c.stuck_stem.ensures) ∙ ap not (sym c.is_some.ensures ∙ c.if-is_some.true)) in
    sym (helpers_of_stuck p.circuit p.f p.g copy c.args.line c.requires.copy stuck)

pub returns-then-line-sources : goal.returns-then-line-sources
returns-then-line-sources c =
    let p = c.args.numbering.now in
    let source : c.args.line < p.circuit.sources = omega (arith, c.sources.ensures.value, c.if-line-sources.true, ap (λ (circuit : Circuit). circuit.sources) c.circuit-circuit.ensures.value) in
    sym (helpers_of_source p.circuit p.f p.g c.args.side c.args.line c.requires.copy (gate_at-source p.circuit c.args.line source))

pub gate_helpers-requires : goal.gate_helpers-requires
gate_helpers-requires c = omega (arith, few_pins c.circuit-circuit.result.now c.gate.ensures.circuit c.args.line c.gate.result.now c.gate.ensures.value)

pub returns : goal.returns
unfolding gate_helpers free_pins
returns c =
    let p = c.args.numbering.now in
    let copy = c.args.side in
    let gate = c.gate.result.now in
    let there : gate_at p.circuit c.args.line ≡ Some gate = ap (λ (circuit : Circuit). gate_at circuit c.args.line) (sym c.circuit-circuit.ensures.value) ∙ c.gate.ensures.value in
    let free : is_none (stuck_stem (fault_of p.circuit p.f p.g copy) c.args.line) ≡ true =
    ap (λ fault. is_none (stuck_stem fault c.args.line)) (sym c.fault-fault.ensures) ∙ (ap is_none (sym c.stuck_stem.ensures) ∙ ap not (sym c.is_some.ensures ∙ c.if-is_some.false)) in
    c.gate_helpers.ensures
    ∙ (ap (λ (fault : Fault). if is_parity gate.kind then count_by (λ b. b) (readings (λ pin read. is_none (stuck_pin fault c.args.line pin)) gate.pins) - 2 else 0) c.fault-fault.ensures
    ∙ sym (helpers_of_driven p.circuit p.f p.g copy c.args.line c.requires.copy gate free there))

pub gate-requires-clause-below : goal.gate-requires-clause-below
gate-requires-clause-below c = subst (λ (circuit : Circuit). c.args.line < line_count circuit) (sym c.circuit-circuit.ensures.value) c.requires.line
