use Rattle.std.proofs.Common.{◌≡◌, Some, subst}
use Rattle.std.specs.Prelude.{slice_get}
use Rattle.std.proofs.lemmas.Option.{get_or_from_slice_get, slice_get_within}
use Rattle.net_model.specs.declared.fault.Fault.TheVariants.{Free}
use Rattle.net_model.specs.Fault.{IsFaultOf}
use Rattle.net_model.specs.FaultList.{faults}
use Rattle.net_model.proofs.Listed.{listed}
use Rattle.fault_collapse.proofs.subject.Subject.fault.Goals as goal

pub returns-clause-stands : goal.returns-clause-stands
returns-clause-stands c =
    let circuit = c.self.inside.circuit.now in
    let there : slice_get (faults circuit) c.args.number ≡ Some c.get.result = rw c.self.invariant.faults_are at c.get.ensures.value in
    subst (λ k. IsFaultOf k c.get.result) c.self.view_is
    (subst (λ f. IsFaultOf circuit f) (get_or_from_slice_get (faults circuit) c.args.number c.get.result Free there) (listed circuit c.args.number Free (slice_get_within (faults circuit) c.args.number c.get.result there)))
