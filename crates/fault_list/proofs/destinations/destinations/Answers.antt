use Rattle.std.proofs.Common.{◌≡◌, ◌∙◌, ◌+◌, ◌-◌, ℕ, List, length, sym, subst, arith}
use Rattle.net_model.specs.declared.fault.Site.TheVariants.{Pin, Position}
use Rattle.net_model.proofs.Wired.{few_pins}
use Rattle.fault_list.specs.Destinations.{AddsReaders}
use Rattle.fault_list.proofs.Readers.{HasGates, no_gates, more_gates, all_readers}
use Rattle.fault_list.proofs.destinations.destinations.Goals as goal

pub loop-line-init : goal.loop-line-init
loop-line-init c =
    let none : c.sources-line.result - c.args.circuit.now.sources ≡ 0 = omega (arith, c.sources-line.ensures.value) in
    rw (none, c.in_ok-found.ensures, c.lines.ensures.value) (no_gates c.args.circuit.now)

pub add_readers-requires-clause-few : goal.add_readers-requires-clause-few
add_readers-requires-clause-few c =
    rw c.as_slice-pins.ensures (omega (arith, few_pins c.args.circuit.now c.gate.ensures.circuit c.loop-line.line c.gate.result.now c.gate.ensures.value))

pub loop-line-preserved : goal.loop-line-preserved
loop-line-preserved c =
    let circuit = c.args.circuit.now in
    let line = c.loop-line.line in
    let from = c.loop-line.auto.line in
    let more : line + 1 - circuit.sources ≡ line - circuit.sources + 1 = omega (arith, c.sources-line.ensures.value) in
    let adds = subst (λ (pins : List ℕ). AddsReaders (Pin line) pins c.loop-line.found c.add_readers.new.found) (c.as_slice-pins.ensures ∙ sym c.gate.ensures.pins) c.in_ok-add_readers.ensures in
    rw more (more_gates circuit (line - circuit.sources) line c.loop-line.found c.add_readers.new.found (omega (arith, c.sources-line.ensures.value)) c.loop-line.invariant adds)

pub returns : goal.returns
returns c =
    let circuit = c.args.circuit.now in
    let all : c.loop-line.line - circuit.sources ≡ length circuit.gates = omega (arith, c.sources-line.ensures.value, c.lines-line-end.ensures.value) in
    let gates : HasGates circuit (length circuit.gates) c.loop-line.found = subst (λ n. HasGates circuit n c.loop-line.found) all c.loop-line.invariant in
    let adds = subst (λ (lines : List ℕ). AddsReaders Position lines c.loop-line.found c.add_readers-2.new.found) c.positions.ensures.value c.in_ok-add_readers-2.ensures in
    all_readers circuit c.loop-line.found c.add_readers-2.new.found gates adds
