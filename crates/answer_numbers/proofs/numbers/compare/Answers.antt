use Rattle.std.proofs.Common.{◌≡◌, ◌∙◌, length, get_or, sym, subst, arith}
use Rattle.net_model.specs.declared.fault.Fault.{Fault}
use Rattle.net_model.specs.Circuit.{Circuit}
use Rattle.net_model.specs.Fault.{IsFaultOf}
use Rattle.word_sim.specs.GoodSim.{vectors_of}
use Rattle.fault_sim.specs.FaultSim.{AreDifferences}
use Rattle.answer_numbers.specs.AnswerNumbers.{lead_fault}
use Rattle.answer_numbers.specs.Compared.{AreCompared}
use Rattle.answer_numbers.proofs.CompareLemmas.{lead_is, lead_stands, compared_more}
use Rattle.answer_numbers.proofs.numbers.compare.Goals as goal

pub inject-requires-clause-fault : goal.inject-requires-clause-fault
inject-requires-clause-fault c =
    let circuit = c.args.good.now.circuit in
    subst (λ (k : Circuit). IsFaultOf k c.get.result) (sym c.loop-place.invariant.sim) (lead_stands circuit c.args.faults.now (get_or c.args.leads.now c.loop-place.place 0) c.get.result c.requires.leads.faults_are c.get.ensures.value)

pub loop-place-preserved : goal.loop-place-preserved
loop-place-preserved c =
    let circuit = c.args.good.now.circuit in
    let leads = c.args.leads.now in
    let vectors = vectors_of c.args.good.now in
    let place = c.loop-place.place in
    let sim = c.inject.new.self in
    let same : sim.circuit ≡ circuit = c.inject.ensures.circuit ∙ c.loop-place.invariant.sim in
    let fault : c.get.result ≡ lead_fault circuit leads place = lead_is circuit c.args.faults.now (get_or leads place 0) c.get.result c.requires.leads.faults_are c.get.ensures.value in
    let differ : AreDifferences circuit (lead_fault circuit leads place) vectors sim.differences =
    subst (λ (f : Fault). AreDifferences circuit f vectors sim.differences) fault (subst (λ (k : Circuit). AreDifferences k c.get.result vectors sim.differences) same c.inject.ensures.differences) in
    record {
      sim = same;
      compared = compared_more circuit leads vectors c.requires.few place sim same differ c.any_difference.result c.any_difference.ensures c.loop-place.compared _ c.loop-place.invariant.compared c.in_ok-add_place.ensures c.in_ok-push.ensures.items;
    }

pub returns-clause-compared : goal.returns-clause-compared
returns-clause-compared c =
    let all : c.loop-place.place ≡ length c.args.leads.now = omega arith in
    subst (λ n. AreCompared c.args.good.now.circuit c.args.leads.now (vectors_of c.args.good.now) n c.loop-place.compared) all c.loop-place.invariant.compared
