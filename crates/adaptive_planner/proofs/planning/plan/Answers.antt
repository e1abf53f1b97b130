use Rattle.std.proofs.Common.{arith}
use Rattle.adaptive_planner.specs.Laws.{CanBePlanned}
use Rattle.adaptive_planner.proofs.PlannedRight.{plans_are_good}
use Rattle.adaptive_planner.proofs.PlanLemmas.{told_apart, plan_is}
use Rattle.adaptive_planner.proofs.planning.plan.Goals as goal
use Rattle.adaptive_planner.proofs.planning.plan.Goals.{After-count}

can : (c : After-count) → CanBePlanned c.args.classes.now c.args.table.now
can c = record {
  whole = c.in_ok-numbers.ensures.whole;
  table_is = c.in_ok-numbers.ensures.table;
  apart = c.requires;
  patterns = omega (arith, c.patterns.ensures.value, c.patterns.type_inv);
  positions = omega (arith, c.positions.ensures.value, c.positions.type_inv);
  classes = omega (arith, c.count.ensures.value, c.count.type_inv);
}

pub steps_of-requires-clause-told : goal.steps_of-requires-clause-told
steps_of-requires-clause-told c = told_apart c.args.classes.now c.args.table.now c.in_ok-numbers.numbers c.in_ok-numbers.ensures.of (can ((goal.at.steps_of-requires-clause-told c).After-count))

pub returns-clause-well_formed : goal.returns-clause-well_formed
returns-clause-well_formed c =
    let t = c.args.classes.now in
    let table = c.args.table.now in
    let numbers = c.in_ok-numbers.numbers in
    let are = c.in_ok-numbers.ensures.of in
    (plans_are_good t table _ (can ((goal.at.returns-clause-well_formed c).After-count)) (plan_is t table numbers are _ c.positions.ensures.value c.patterns.ensures.value c.count.ensures.value (c.in_ok-steps_of.ensures t table are))).well_formed
