use Rattle.std.proofs.Common.{subst}
use Rattle.net_model.specs.Circuit.{IsCircuit}
use Rattle.adaptive_planner.proofs.CircuitPlanLemmas.{told_by_answers}
use Rattle.tests_dictionaries.proofs.tests.plans.is_planned_by_table.Goals as goal

pub plan-requires : goal.plan-requires
plan-requires c =
    let s = c.args.setting.now in
    let is = c.circuit-circuit.ensures.value in
    told_by_answers s.subject.now (subst IsCircuit is c.circuit-circuit.ensures.circuit) s.patterns.now s.classes.now c.requires.classes c.in_ok-table.table (rw is at c.in_ok-table.ensures)
