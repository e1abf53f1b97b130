use Rattle.std.proofs.Common.{◌<◌, ◌↔◌, ℕ, [], length, get_or, subst, IsTrue, arith}
use Rattle.net_model.specs.Circuit.{Circuit}
use Rattle.net_model.specs.Answer.{bit_at}
use Rattle.net_model.specs.FaultList.{fault_numbered}
use Rattle.table_dicts.proofs.BlockLemmas.{fail_bit}
use Rattle.table_dicts.proofs.pattern_sim.PatternSim.failing.Goals as goal

pub returns : goal.returns
returns c = λ lane live answer free of none.
    let pattern_sim = c.args.self.now in
    let circuit = pattern_sim.good.circuit in
    let rows = pattern_sim.sim.differences in
    let some = subst (λ (k : Circuit). IsTrue (bit_at c.any_difference.result lane) ↔ ((position : ℕ) × (position < length k.positions) × IsTrue (bit_at (get_or rows position []) lane))) c.requires.run.pattern_sim.sim
    (c.any_difference.ensures lane (omega (arith, live, c.requires.run.few))) in
    fail_bit circuit (fault_numbered circuit c.args.number) (get_or pattern_sim.block.vectors lane []) answer free (bit_at c.any_difference.result lane) (λ position. bit_at (get_or rows position []) lane) of none
    (λ position h. c.requires.differ.live position lane h live answer free of none) some
