use Rattle.adaptive_planner.proofs.SomePlan.{have_one_plan}
use Rattle.adaptive_planner.proofs.laws.one_plan_of_a_table.Goals as goal

pub returns : goal.returns
returns c = have_one_plan
