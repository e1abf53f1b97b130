use Rattle.std.proofs.Common.{◌∙◌, length, ap, subst, arith}
use Rattle.net_model.specs.Circuit.{Circuit, IsCircuit}
use Rattle.fault_heads.specs.Turned.{vector_at}
use Rattle.answer_numbers.proofs.FreeLemmas.{free_is}
use Rattle.answer_numbers.proofs.numbers.free_answer.Goals as goal

pub returns : goal.returns
returns c =
    let good = c.args.good.now in
    let is : IsCircuit good.circuit = subst IsCircuit c.circuit.ensures c.positions-positions.ensures.circuit in
    let count = ap length c.positions-positions.ensures.value ∙ ap (λ (k : Circuit). length k.positions) c.circuit.ensures in
    free_is good.circuit is (vector_at good c.args.lane) c.loop-position.answer c.loop-position.invariant.whole (λ k bits h agrees. c.loop-position.invariant.each k bits (omega (arith, h, count)) agrees)
