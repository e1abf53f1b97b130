-- What the plan of a table promises.
use Rattle.std.specs.Prelude.{◌≡◌, ℕ, ◌<◌, ◌≤◌, List, All, slice_index_or, [], Bool, length}
use Rattle.net_model.specs.Circuit.{Circuit}
use Rattle.net_model.specs.Answer.{IsAnswer}
use Rattle.net_model.specs.ClassTable.{ClassTable, class_at}
use Rattle.dict_rows.specs.AnswerTable.{Answers, answer_to}
use Rattle.adaptive_tree.specs.declared.outcome.Outcome.TheVariants as outcome
use Rattle.adaptive_tree.specs.declared.steps.Plan.{Plan}
use Rattle.adaptive_tree.specs.PlanNode.{HasNode, ask_count, depth_of}
use Rattle.adaptive_tree.specs.WellFormed.{IsWellFormed}
use Rattle.adaptive_tree.specs.AnswerLog.{Answer, AreRightAnswers, outcome_after}
use Rattle.net_model.specs.declared.fault.Fault.{Fault}

-- No way has more asks than there are patterns, and there are fewer asks than classes.
pub record IsShort (plan : Plan) : Type 0 where
  pub ways : (root : HasNode plan) → depth_of root.node ≤ plan.patterns
  pub asks : ask_count plan.steps < plan.classes

-- Some of the own answers, each to the pattern that is asked, lead to the class.
pub record LeadsHome (plan : Plan) (IsOwn : Answer → Type 0) (class : ℕ) : Type 0 where
  pub root : HasNode plan
  pub answers : List Answer
  pub right : AreRightAnswers plan.positions root.node answers
  pub own : All IsOwn answers
  pub home : outcome_after root.node answers ≡ outcome.Class class

-- The answer is a number's own to a pattern of a table.
pub record IsInTable (table : Answers) (number : ℕ) (answer : Answer) : Type 0 where
  pub within : answer.pattern < length table.rows
  pub bits_are : answer.bits ≡ answer_to table answer.pattern number

-- The answer is a fault's own to one of the patterns of a circuit.
pub record IsOfFault (c : Circuit) (patterns : List (List Bool)) (f : Fault) (answer : Answer) : Type 0 where
  pub within : answer.pattern < length patterns
  pub is : IsAnswer c f (slice_index_or patterns answer.pattern []) answer.bits

-- The plan is well formed and short, and each number's own answers lead to its class.
pub record IsGoodPlan (t : ClassTable) (table : Answers) (plan : Plan) : Type 0 where
  pub well_formed : IsWellFormed plan
  pub short : IsShort plan
  pub home : (number : ℕ) → number < table.numbers → LeadsHome plan (IsInTable table number) (class_at t number)
