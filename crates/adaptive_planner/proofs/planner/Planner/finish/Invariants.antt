use Rattle.std.proofs.Common.{ℕ, List}
use Rattle.net_model.specs.ClassTable.{ClassTable}
use Rattle.dict_rows.specs.AnswerTable.{Answers}
use Rattle.adaptive_planner.specs.Numbering.{AreNumbersOfTable}
use Rattle.adaptive_planner.specs.Planning.{IsPlanner, BeginNode, nodes_left}
use Rattle.adaptive_planner.proofs.planner.Planner.finish.Given as goal

abbrev pub invariant-loop-branch : goal.invariant-loop-branch
invariant-loop-branch l = record {
  planner : IsPlanner l.numbers l.self;
  begun : (t : ClassTable) (table : Answers) (set : List ℕ) → AreNumbersOfTable t table l.numbers → BeginNode t table l.numbers set l.initial.self → BeginNode t table l.numbers set l.self;
}

abbrev pub decreases-loop-branch : goal.decreases-loop-branch
decreases-loop-branch l = nodes_left l.self
