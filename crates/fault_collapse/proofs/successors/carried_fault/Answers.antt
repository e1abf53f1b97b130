use Rattle.std.proofs.Common.{sym, subst}
use Rattle.net_model.specs.declared.fault.Site.TheVariants.{Stem}
use Rattle.net_model.specs.declared.fault.Fault.TheVariants.{Stuck}
use Rattle.fault_collapse.specs.Forest.{IsNumberOf}
use Rattle.net_model.specs.Collapse.{carried_fault}
use Rattle.fault_collapse.proofs.Numbers.{stem_listed}
use Rattle.fault_collapse.proofs.Found.{is_number, none_carried, some_carried}
use Rattle.fault_collapse.proofs.successors.carried_fault.Goals as goal

pub returns-in_err-value : goal.returns-in_err-value
returns-in_err-value c =
    subst (IsNumberOf c.args.circuit.now (carried_fault c.args.circuit.now c.args.bit c.args.gate)) (sym c.from_residual.ensures)
    (none_carried c.args.circuit.now c.args.gate c.args.bit c.gate.result.now c.gate.ensures.value c.in_err-value.ensures)

pub returns : goal.returns
returns c =
    some_carried c.args.circuit.now c.args.gate c.args.bit c.gate.result.now c.in_ok-value.value c.number_of.result c.gate.ensures.value c.in_ok-value.ensures
    (is_number c.args.circuit.now c.args.faults.now (Stuck (Stem c.args.gate) c.in_ok-value.value) c.number_of.result c.requires.faults c.number_of.ensures (stem_listed c.args.circuit.now c.args.gate c.in_ok-value.value c.requires.below))
