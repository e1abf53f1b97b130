use Rattle.std.proofs.Common.{false, refl, subst}
use Rattle.net_model.specs.declared.fault.Site.{Site}
use Rattle.net_model.specs.declared.fault.Fault.TheVariants.{Stuck}
use Rattle.net_model.specs.Fault.{IsFaultOf}
use Rattle.net_model.specs.Collapse.{entered_gate}
use Rattle.fault_collapse.proofs.successors.entered_gate.Goals as goal

pub sole_gate-requires : goal.sole_gate-requires
sole_gate-requires c = subst (λ (site : Site). IsFaultOf c.args.circuit.now (Stuck site false)) c.in-Stem.is c.requires

pub returns-in-Stem : goal.returns-in-Stem
unfolding entered_gate
returns-in-Stem c = rw c.in-Stem.is c.sole_gate.ensures

pub returns-in-Pin : goal.returns-in-Pin
unfolding entered_gate
returns-in-Pin c = rw c.in-Pin.is refl

pub returns-in-Position : goal.returns-in-Position
unfolding entered_gate
returns-in-Position c = rw c.in-Position.is refl
