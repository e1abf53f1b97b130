use Rattle.std.proofs.Common.{◌≡◌, ◌∙◌, ◌<◌, List, Bool, [], ap, sym, subst}
use Rattle.std.specs.Prelude.{Option, unwrap_or}
use Rattle.net_model.specs.Circuit.{Circuit}
use Rattle.net_model.specs.Fault.{IsFaultOf}
use Rattle.net_model.specs.declared.fault.Fault.{Fault}
use Rattle.net_model.specs.FaultList.{fault_count, fault_numbered}
use Rattle.word_sim.specs.GoodSim.{vectors_of}
use Rattle.fault_sim.specs.FaultSim.{AreDifferences}
use Rattle.table_dicts.proofs.pattern_sim.PatternSim.inject.Goals as goal

pub fault-requires : goal.fault-requires
fault-requires c = subst (λ (k : Circuit). c.args.number < fault_count k) (sym c.requires.run.pattern_sim.subject) c.requires.number

pub inject-requires-clause-fault : goal.inject-requires-clause-fault
inject-requires-clause-fault c =
    let pattern_sim = c.requires.run.pattern_sim in
    subst (λ (k : Circuit). IsFaultOf k c.fault.result) (pattern_sim.subject ∙ sym pattern_sim.sim) c.fault.ensures.stands

pub returns-clause-differ : goal.returns-clause-differ
returns-clause-differ c =
    let run = c.requires.run in
    let good = c.args.self.now.good in
    let rows = c.inject.new.self.differences in
    let of = subst (λ (k : Circuit). AreDifferences k c.fault.result (vectors_of good) rows) (c.inject.ensures.circuit ∙ run.pattern_sim.sim) c.inject.ensures.differences in
    let fault_is : c.fault.result ≡ fault_numbered good.circuit c.args.number = c.fault.ensures.value ∙ ap (λ (k : Circuit). fault_numbered k c.args.number) run.pattern_sim.subject in
    let fault = subst (λ (f : Fault). AreDifferences good.circuit f (vectors_of good) rows) fault_is of in
    let ran : vectors_of good ≡ c.args.self.now.block.vectors = ap (λ (ran : Option (List (List Bool))). unwrap_or ran []) run.ran in
    subst (λ (vs : List (List Bool)). AreDifferences good.circuit (fault_numbered good.circuit c.args.number) vs rows) ran fault

pub returns-clause-run : goal.returns-clause-run
returns-clause-run c =
    let run = c.requires.run in
    record {
      pattern_sim = record { circuit = run.pattern_sim.circuit; subject = run.pattern_sim.subject; block = run.pattern_sim.block; good = run.pattern_sim.good; sim = c.inject.ensures.circuit ∙ run.pattern_sim.sim };
      ran = run.ran;
      few = run.few;
    }
