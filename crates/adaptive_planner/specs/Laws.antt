-- Laws of the plan of a table.
use Rattle.std.specs.Prelude.{◌≡◌, ◌<◌, ◌^◌, ℕ, Bool, List, length}
use Rattle.net_model.specs.Circuit.{Circuit}
use Rattle.net_model.specs.FaultList.{fault_count, fault_numbered}
use Rattle.net_model.specs.ClassTable.{ClassTable, class_count, class_at}
use Rattle.class_refine.specs.Fields.{IsWhole}
use Rattle.dict_rows.specs.AnswerTable.{Answers, IsTable, AreAnswers}
use Rattle.adaptive_tree.specs.declared.steps.Plan.{Plan}
use Rattle.adaptive_planner.specs.Planned.{IsPlan, IsToldApart}
use Rattle.adaptive_planner.specs.Promises.{IsGoodPlan, LeadsHome, IsOfFault}

-- The classes are whole (`IsWhole`), the rows of the table are whole, its answers distinguish the classes, and 32 bits
-- number the patterns, the positions and the classes.
pub record CanBePlanned (t : ClassTable) (table : Answers) : Type 0 where
  pub whole : IsWhole t
  pub table_is : IsTable table
  pub apart : IsToldApart t table
  pub patterns : length table.rows < 2 ^ 32
  pub positions : table.positions < 2 ^ 32
  pub classes : class_count t < 2 ^ 32

-- classes and a table that can be planned have exactly one plan
abbrev pub HaveOnePlan : Type 0
HaveOnePlan = (t : ClassTable) (table : Answers) → CanBePlanned t table → (plan : Plan) × IsPlan t table plan × ((other : Plan) → IsPlan t table other → other ≡ plan)

-- the plan of classes and a table that can be planned is well formed and short, and leads each number to its class
abbrev pub PlansAreGood : Type 0
PlansAreGood = (t : ClassTable) (table : Answers) (plan : Plan) → CanBePlanned t table → IsPlan t table plan → IsGoodPlan t table plan

-- if the table has the answers of a circuit's faults, each fault's own answers lead to its class in a good plan, as
-- `IsGoodPlan` says
abbrev pub FaultsLeadHome : Type 0
FaultsLeadHome = (c : Circuit) (patterns : List (List Bool)) (t : ClassTable) (table : Answers) (plan : Plan) (number : ℕ) → AreAnswers c patterns table → IsGoodPlan t table plan → number < fault_count c
    → LeadsHome plan (IsOfFault c patterns (fault_numbered c number)) (class_at t number)
