use Rattle.std.proofs.Common.{◌≡◌, ◌∙◌, ◌<◌, List, Bool, [], length, get_or, sym, ap, subst, arith, not, cond}
use Rattle.std.specs.Prelude.{Option, unwrap_or}
use Rattle.net_model.specs.declared.fault.Fault.TheVariants.{Free}
use Rattle.net_model.specs.Circuit.{Circuit}
use Rattle.net_model.specs.Answer.{bit_at, Agrees}
use Rattle.net_model.specs.FaultList.{fault_numbered}
use Rattle.word_sim.specs.GoodSim.{vectors_of}
use Rattle.table_dicts.proofs.BlockLemmas.{shown_bit}
use Rattle.table_dicts.proofs.pattern_sim.PatternSim.shown.Goals as goal

pub returns : goal.returns
returns c = λ lane live answer of.
    let pattern_sim = c.args.self.now in
    let good = pattern_sim.good in
    let vectors = pattern_sim.block.vectors in
    let position = c.args.position in
    let ran : vectors_of good ≡ vectors = ap (λ (ran : Option (List (List Bool))). unwrap_or ran []) c.requires.run.ran in
    let bit = bit_at c.lanes.result lane in
    let line = get_or c.positions.result.now position 0 in
    let at : line ≡ get_or good.circuit.positions position 0 = ap (λ ps. get_or ps position 0) (c.positions.ensures.value ∙ ap (λ (k : Circuit). k.positions) c.circuit.ensures) in
    let inside : lane < length (vectors_of good) = subst (λ (vs : List (List Bool)). lane < length vs) (sym ran) live in
    let free = λ (bits : List Bool) (agrees : Agrees good.circuit Free (get_or vectors lane []) bits).
    c.lanes.ensures lane inside bits (subst (λ (vs : List (List Bool)). Agrees good.circuit Free (get_or vs lane []) bits) (sym ran) agrees) in
    c.xor.ensures lane (omega (arith, live, c.requires.run.few))
    ∙ (ap (λ (row : List Bool). cond bit (not (bit_at row lane)) (bit_at row lane)) c.differs.ensures
    ∙ shown_bit good.circuit c.requires.run.pattern_sim.circuit (fault_numbered good.circuit c.args.number) (get_or vectors lane []) answer position line bit (bit_at (get_or pattern_sim.sim.differences position []) lane) c.requires.position at
    (c.requires.differ.live position lane c.requires.position live) free of)
