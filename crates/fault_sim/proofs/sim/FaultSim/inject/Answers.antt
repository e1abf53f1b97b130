use Rattle.std.proofs.Common.{◌≡◌, ◌∙◌, [], refl, sym, subst}
use Rattle.net_model.specs.declared.fault.Fault.TheVariants.{Free}
use Rattle.net_model.specs.Circuit.{Circuit}
use Rattle.word_sim.specs.GoodSim.{vectors_of}
use Rattle.fault_sim.specs.FaultSim.{AreDifferences}
use Rattle.fault_sim.proofs.DifferenceLemmas.{fault_differences, free_differences}
use Rattle.fault_sim.proofs.sim.FaultSim.inject.Goals as goal

pub returns-in-Some-clause-differences : goal.returns-in-Some-clause-differences
returns-in-Some-clause-differences c =
    let good = c.args.good.now in
    let fault = c.args.fault.now in
    let turn = c.in-Some.turn in
    let rows = c.flip_live.new.self.differences in
    subst (λ (n : Circuit). AreDifferences n fault (vectors_of good) rows) (c.requires.circuit ∙ sym c.flip_live.ensures.circuit)
    (fault_differences good fault turn.head turn.lanes rows c.live-live.ensures.few c.in-Some.ensures.turns c.flip_live.ensures.differences)

pub returns-in-None-clause-differences : goal.returns-in-None-clause-differences
returns-in-None-clause-differences c =
    let vectors = vectors_of c.args.good.now in
    let circuit = c.clear.new.self.circuit in
    let rows = c.clear.new.self.differences in
    let free : c.args.fault.now ≡ Free = c.in-None.ensures.none.0 refl in
    subst (λ f. AreDifferences circuit f vectors rows) (sym free)
    (free_differences circuit c.clear.ensures.built vectors rows c.clear.ensures.whole (λ position h. c.clear.ensures.same position [] h) c.live-live.ensures.few)
