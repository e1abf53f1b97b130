use Rattle.adaptive_planner.proofs.PlannedRight.{plans_are_good}
use Rattle.adaptive_planner.proofs.FaultsHome.{faults_lead_home}
use Rattle.adaptive_planner.proofs.laws.plan_of_a_table_is_good.Goals as goal

pub returns : goal.returns
returns c = record { good = plans_are_good; faults = faults_lead_home }
