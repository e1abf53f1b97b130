use Rattle.std.proofs.Common.{◌≡◌, arith, ap, refl, subst, sym}
use Rattle.std.specs.Prelude.{All}
use Rattle.net_model.specs.Fault.{IsFaultOf}
use Rattle.net_model.specs.FaultList.{faults}
use Rattle.net_model.proofs.Listed.{listed}
use Rattle.fault_list.specs.Numbers.{faults_at}
use Rattle.fault_list.proofs.Stuck.{length-stuck}
use Rattle.fault_list.proofs.numbers.list.Goals as goal

pub returns-clause-faults : goal.returns-clause-faults
unfolding faults
returns-clause-faults c = rw c.in_ok-sites.ensures.sites refl

pub returns-clause-stand : goal.returns-clause-stand
unfolding faults
returns-clause-stand c =
    let same : faults_at c.in_ok-sites.sites.items ≡ faults c.args.circuit.now = ap faults_at c.in_ok-sites.ensures.sites in
    subst (All (IsFaultOf c.args.circuit.now)) (sym same) (listed c.args.circuit.now)

pub returns-clause-few : goal.returns-clause-few
returns-clause-few c = omega (arith, c.in_ok-sites.ensures.few, length-stuck c.in_ok-sites.sites.items)
