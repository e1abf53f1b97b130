-- Logs of a walk: a line for each answer, with the pattern that is asked and the observed bits.
use Rattle.std.specs.Prelude.{◌≡◌, ◌≢◌, ℕ, ◌+◌, ◌<◌, ◌≤◌, Bool, List, [], ◌∷◌, ◌++◌, map, flat_map, length, take, slice_index_or}
use Rattle.net_model.specs.Ascii.{line_feed}
use Rattle.diagnose.specs.declared.fault.LogKind.{LogKind}
use Rattle.diagnose.specs.declared.fault.LogKind.TheVariants.{Syntax, Order, Width, TooLong}
use Rattle.text_fields.specs.Fields.{Text}
use Rattle.diagnose.specs.Lines.{text_limit, line_number}
use Rattle.diagnose.specs.LogText.{log_line, BeginsWithLine, HasNoLine}
use Rattle.adaptive_tree.specs.declared.outcome.Outcome.{Outcome}
use Rattle.adaptive_tree.specs.declared.outcome.Outcome.TheVariants as outcome
use Rattle.adaptive_tree.specs.declared.steps.Plan.{Plan}
use Rattle.adaptive_tree.specs.PlanNode.{PlanNode, HasNode}
use Rattle.adaptive_tree.specs.Walk.{outcome_of}

-- a pattern, and the bits of the answer to it
pub record Answer : Type 0 where
  pub pattern : ℕ
  pub bits : List Bool

abbrev pub walk_text : List Answer → Text
walk_text answers = flat_map (λ answer. log_line answer.pattern answer.bits ++ line_feed ∷ []) answers

-- where answers lead from a node
abbrev pub outcome_after : PlanNode → List Answer → Outcome
outcome_after node answers = outcome_of node (map (λ answer. answer.bits) answers)

-- The pattern is the one that is asked after these answers.
abbrev pub IsAsked : PlanNode → List Answer → ℕ → Type 0
IsAsked node before pattern = outcome_after node before ≡ outcome.Ask pattern

-- The answer is to the pattern that is asked after the answers before it, and has a bit for each position.
pub record IsRightAnswer (positions : ℕ) (node : PlanNode) (before : List Answer) (answer : Answer) : Type 0 where
  pub asked : IsAsked node before answer.pattern
  pub width : length answer.bits ≡ positions

abbrev pub no_answer : Answer
no_answer = record { pattern = 0; bits = [] }

abbrev pub log_answer_at : List Answer → ℕ → Answer
log_answer_at answers at = slice_index_or answers at no_answer

-- Each answer is right after the answers before it.
abbrev pub AreRightAnswers : ℕ → PlanNode → List Answer → Type 0
AreRightAnswers positions node answers = (at : ℕ) → at < length answers → IsRightAnswer positions node (take at answers) (log_answer_at answers at)

-- The text after these answers is refused for a rule of this kind: it begins with no line, or its first line has a
-- pattern that isn't asked or an answer of a wrong width.
pub data AnswerRefused (positions : ℕ) (node : PlanNode) (before : List Answer) (rest : Text) (kind : LogKind) : Type 0 where
  no_line : rest ≢ [] → HasNoLine rest → kind ≡ Syntax → AnswerRefused positions node before rest kind
  not_asked : (pattern : ℕ) (bits : List Bool) (more : Text) → BeginsWithLine rest pattern bits more → ¬ IsAsked node before pattern → kind ≡ Order → AnswerRefused positions node before rest kind
  wrong_width : (pattern : ℕ) (bits : List Bool) (more : Text) → BeginsWithLine rest pattern bits more → IsAsked node before pattern → length bits ≢ positions → kind ≡ Width → AnswerRefused positions node before rest kind

module _ (plan : Plan) (text : Text) where
  -- The text is a log of right answers to the plan and isn't too long, and the answers lead to this outcome.
  pub record LeadsTo (end : Outcome) : Type 0 where
    pub root : HasNode plan
    pub answers : List Answer
    pub right : AreRightAnswers plan.positions root.node answers
    pub text_is : text ≡ walk_text answers
    pub short : length text ≤ text_limit
    pub end_is : end ≡ outcome_after root.node answers

  -- The log is refused for a rule of this kind at the line with this number: it is too long, or the text after some
  -- right lines is refused.
  pub data WalkRefused (kind : LogKind) (number : ℕ) : Type 0 where
    too_long : text_limit < length text → kind ≡ TooLong → number ≡ line_number text text_limit → WalkRefused kind number
    at_line : (root : HasNode plan) (before : List Answer) (rest : Text) → length text ≤ text_limit → AreRightAnswers plan.positions root.node before → text ≡ walk_text before ++ rest → AnswerRefused plan.positions root.node before rest kind → number ≡ length before + 1 → WalkRefused kind number
