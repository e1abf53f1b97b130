-- Which adaptive plan is made from a result, and what is printed of where a log leads in a plan.
use Rattle.std.specs.Prelude.{◌≡◌, ℕ, ◌<◌, Bool, List}
use Rattle.net_model.specs.Circuit.{Circuit}
use Rattle.net_model.specs.FaultList.{fault_count, fault_numbered}
use Rattle.net_model.specs.ClassTable.{ClassTable, class_at}
use Rattle.net_model.specs.PatternRows.{IsTableOf}
use Rattle.result_records.specs.declared.record.Record.{Record}
use Rattle.result_records.specs.Spelling.{text_of}
use Rattle.result_records.specs.Marks.{patterns_in}
use Rattle.result_file.specs.Valid.{IsValid}
use Rattle.dict_rows.specs.AnswerTable.{Answers, AreAnswers}
use Rattle.adaptive_tree.specs.declared.steps.Plan.{Plan as AdaptivePlan}
use Rattle.adaptive_tree.specs.PlanNode.{HasNode, ask_count, depth_of}
use Rattle.adaptive_planner.specs.Planned.{IsPlan}
use Rattle.adaptive_tree.specs.PlanText.{plan_text}
use Rattle.adaptive_tree.specs.WellFormed.{IsWellFormed}
use Rattle.adaptive_planner.specs.Promises.{IsShort, LeadsHome, IsOfFault}
use Rattle.adaptive_tree.specs.declared.outcome.Outcome.{Outcome as WalkOutcome}
use Rattle.text_fields.specs.Fields.{Text}
use Rattle.dictionary_commands.specs.Texts.{outcome_text, plan_counts_text}

-- ---- what is made

-- The plan is that of these classes by the answers to these patterns. It is well formed and short, and leads each
-- fault's own answers to its class. That the classes are those of the patterns is no part of this.
pub record IsPlanOf (c : Circuit) (patterns : List (List Bool)) (classes : ClassTable) (plan : AdaptivePlan) : Type 0 where
  pub answers : Answers
  pub are : AreAnswers c patterns answers
  pub is : IsPlan classes answers plan
  pub well_formed : IsWellFormed plan
  pub short : IsShort plan
  pub home : (number : ℕ) → number < fault_count c → LeadsHome plan (IsOfFault c patterns (fault_numbered c number)) (class_at classes number)

-- The file is the text of the plan for these classes at these patterns, and the text is what is printed of it.
pub record IsPlanFileOf (c : Circuit) (patterns : List (List Bool)) (classes : ClassTable) (file text : Text) : Type 0 where
  pub plan : AdaptivePlan
  pub planned : IsPlanOf c patterns classes plan
  pub root : HasNode plan
  pub file_is : file ≡ plan_text plan
  pub text_is : text ≡ plan_counts_text plan.classes (ask_count plan.steps) (depth_of root.node)

-- The file is the text of the plan for the classes of the patterns of a valid result for the circuit, and the text is
-- what is printed of it.
pub record IsMadePlan (c : Circuit) (result file text : Text) : Type 0 where
  pub records : List Record
  pub spelled : result ≡ text_of records
  pub valid : IsValid c records
  pub classes : ClassTable
  pub table : IsTableOf c (patterns_in records) classes
  pub made : IsPlanFileOf c (patterns_in records) classes file text

-- ---- what is printed

-- The text says where a log leads.
abbrev pub IsOutcomeText : WalkOutcome → Text → Type 0
IsOutcomeText outcome text = text ≡ outcome_text outcome
