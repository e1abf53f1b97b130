use Rattle.std.proofs.Common.{◌≡◌, ◌∙◌, sym, subst}
use Rattle.net_model.specs.declared.fault.Fault.TheVariants.{Stuck}
use Rattle.net_model.specs.Circuit.{Circuit, IsCircuit}
use Rattle.net_model.specs.Fault.{IsFaultOf}
use Rattle.net_model.specs.Answer.{IsAnswer}
use Rattle.fault_heads.specs.Turned.{vector_at, turned_if, bits_differ}
use Rattle.fault_heads.specs.declared.head.Head.TheVariants as head
use Rattle.std.proofs.Common.{ap, get_or}
use Rattle.net_model.specs.Answer.{bit_at}
use Rattle.fault_heads.specs.Laws.{value_with_pin}
use Rattle.fault_heads.proofs.OneWay.{stem_law, pin_law, position_law}
use Rattle.fault_heads.proofs.turns.turn_at.Goals as goal

pub returns-in-Stem-clause-turns : goal.returns-in-Stem-clause-turns
returns-in-Stem-clause-turns c = λ lane free answer is a.
    let circuit = c.args.good.now.circuit in
    let v = vector_at c.args.good.now lane in
    let line = c.in-Stem.line in
    let bit = c.args.bit in
    let w = subst IsCircuit c.circuit.ensures c.positions-shown.ensures.circuit in
    let row : bit_at c.difference.result lane ≡ bits_differ bit (bit_at free line) = c.difference.ensures.live lane free is ∙ ap (λ b. bits_differ b (bit_at free line)) (c.all-stuck.ensures lane is.within) in
    let stem = subst (λ s. IsAnswer circuit (Stuck s bit) v answer) c.in-Stem.is a in
    let inside = subst (λ s. IsFaultOf circuit (Stuck s bit)) c.in-Stem.is c.requires.fault in
    subst (λ b. IsAnswer circuit (turned_if circuit free (head.Line line) b) v answer) (sym row) (stem_law circuit line bit v free answer w inside is.agrees stem)

pub returns-in-Pin-clause-turns : goal.returns-in-Pin-clause-turns
returns-in-Pin-clause-turns c = λ lane free answer is a.
    let circuit = c.args.good.now.circuit in
    let v = vector_at c.args.good.now lane in
    let gate = c.in-Pin.gate in
    let pin = c.in-Pin.pin in
    let bit = c.args.bit in
    let w = subst IsCircuit c.circuit.ensures c.positions-shown.ensures.circuit in
    let row : bit_at c.difference-in-Pin.result lane ≡ bits_differ (value_with_pin circuit v free gate pin bit) (bit_at free gate) =
    c.difference-in-Pin.ensures.live lane free is
    ∙ ap (λ b. bits_differ b (bit_at free gate)) (c.value_with_pin.ensures.value lane free is ∙ ap (value_with_pin circuit v free gate pin) (c.all-stuck.ensures lane is.within)) in
    let stuck = subst (λ s. IsAnswer circuit (Stuck s bit) v answer) c.in-Pin.is a in
    let inside = subst (λ s. IsFaultOf circuit (Stuck s bit)) c.in-Pin.is c.requires.fault in
    subst (λ b. IsAnswer circuit (turned_if circuit free (head.Line gate) b) v answer) (sym row) (pin_law circuit gate pin bit v free answer w inside is.agrees stuck)

pub returns-in-Position-clause-turns : goal.returns-in-Position-clause-turns
returns-in-Position-clause-turns c = λ lane free answer is a.
    let circuit = c.args.good.now.circuit in
    let v = vector_at c.args.good.now lane in
    let at = c.in-Position.at in
    let bit = c.args.bit in
    let w = subst IsCircuit c.circuit.ensures c.positions-shown.ensures.circuit in
    let line = get_or circuit.positions at 0 in
    let read : get_or c.positions-shown.result.now at 0 ≡ line = ap (λ xs. get_or xs at 0) (c.positions-shown.ensures.value ∙ ap (λ (n : Circuit). n.positions) c.circuit.ensures) in
    let row : bit_at c.difference-in-Position.result lane ≡ bits_differ bit (bit_at free line) =
    c.difference-in-Position.ensures.live lane free is ∙ (ap (λ b. bits_differ b (bit_at free (get_or c.positions-shown.result.now at 0))) (c.all-stuck.ensures lane is.within) ∙ ap (λ n. bits_differ bit (bit_at free n)) read) in
    let stuck = subst (λ s. IsAnswer circuit (Stuck s bit) v answer) c.in-Position.is a in
    let inside = subst (λ s. IsFaultOf circuit (Stuck s bit)) c.in-Position.is c.requires.fault in
    subst (λ b. IsAnswer circuit (turned_if circuit free (head.Position at) b) v answer) (sym row) (position_law circuit at bit v free answer w inside is.agrees stuck)
