use Rattle.std.proofs.Common.{◌≡◌, ◌∙◌, ap, arith, length, subst, sym, true}
use Rattle.std.specs.Prelude.{◌&&◌, nat_lt, Some}
use Rattle.std.proofs.lemmas.Bool.Decides.{nat_tests}
use Rattle.net_model.specs.declared.fault.Fault.TheVariants.{Free}
use Rattle.net_model.specs.Circuit.{Circuit, gate_at}
use Rattle.net_model.specs.Answer.{bit_at, driven_bit}
use Rattle.word_sim.specs.GoodSim.{vectors_of}
use Rattle.net_model.specs.Gate.{inverted}
use Rattle.fault_heads.specs.Turned.{vector_at}
use Rattle.fault_sim.specs.TurnedLines.{turned_bits}
use Rattle.fault_heads.proofs.SeenPins.{driven_gate}
use Rattle.fault_sim.proofs.TurnedLemmas.{inverted_to}
use Rattle.fault_sim.proofs.turned.line_change.Goals as goal

pub returns-clause-live : goal.returns-clause-live
returns-clause-live c = λ lane free at.
    let circuit = c.args.good.now.circuit in
    let v = vector_at c.args.good.now lane in
    let bits = turned_bits free c.args.rows.now lane in
    let line = c.args.line in
    let bit = bit_at free line in
    let value = bit_at c.gate_lanes-lanes.result lane in
    let drives : gate_at circuit line ≡ Some c.gate.result.now = subst (λ (n : Circuit). gate_at n line ≡ Some c.gate.result.now) c.circuit.ensures c.gate.ensures.value in
    let driven : value ≡ driven_bit circuit Free v bits line = c.gate_lanes-lanes.ensures lane free at ∙ sym (driven_gate circuit Free v bits line c.gate.result.now drives) in
    let test : nat_lt lane (length (vectors_of c.args.good.now)) ≡ true = let live = at.live in grind (arith, nat_tests) in
    let is_live : bit_at c.args.live lane ≡ true = c.requires.live lane at.within ∙ test in
    let differs : bit_at c.xor.result lane ≡ inverted value bit = c.xor.ensures lane at.within ∙ ap (inverted value) (c.lanes.ensures lane at.live free at.agrees) in
    ap (inverted bit) (c.and.ensures lane at.within ∙ (λ i. differs i && is_live i)) ∙ inverted_to bit value ∙ driven
