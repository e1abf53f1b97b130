-- Which bytes are accepted as a tester's log, whole, partial or of a walk, or as a list of vectors, and which are
-- refused.
use Rattle.std.specs.Prelude.{◌≡◌, ℕ, Bool, List}
use Rattle.net_model.specs.Circuit.{Circuit}
use Rattle.dict_rows.specs.declared.dict.Dict.{Dict}
use Rattle.diagnose.specs.declared.fault.LogKind.{LogKind}
use Rattle.diagnose.specs.LogText.{IsLog, TesterLogRefused}
use Rattle.diagnose.specs.VectorText.{IsVectorList, VectorsRefused}
use Rattle.ranked_diag.specs.PartialLog.{Line, IsPartialLog, PartialRefused}
use Rattle.adaptive_tree.specs.declared.outcome.Outcome.{Outcome as WalkOutcome}
use Rattle.adaptive_tree.specs.declared.steps.Plan.{Plan as AdaptivePlan}
use Rattle.adaptive_tree.specs.AnswerLog.{LeadsTo, WalkRefused}
use Rattle.text_fields.specs.Fields.{Text}
use Rattle.run_steps.specs.Texts.{log_text, vectors_text}

-- `LineRefused` holds of some rule and line, and `console` is the text that says so, which begins with `log:`.
pub record IsRefusedBySome (LineRefused : LogKind → ℕ → Type 0) (console : Text) : Type 0 where
  pub kind : LogKind
  pub line : ℕ
  pub refused : LineRefused kind line
  pub console_is : console ≡ log_text kind line

-- ---- logs

-- The bytes are the log of these observed answers, for the patterns and positions of the dictionary.
abbrev pub IsLogFor : Dict → Text → List (List Bool) → Type 0
IsLogFor d bytes observed = IsLog d.patterns d.positions bytes observed

-- The bytes are refused as a log for the dictionary, and `console` is the text of the refusal.
abbrev pub IsRefusedLog : Dict → Text → Text → Type 0
IsRefusedLog d bytes console = IsRefusedBySome (TesterLogRefused d.patterns d.positions bytes) console

-- ---- partial logs

-- The bytes are refused as a partial log of `patterns` patterns and `positions` positions, and `console` is the text of
-- the refusal.
abbrev pub IsRefusedPartialOf : ℕ → ℕ → Text → Text → Type 0
IsRefusedPartialOf patterns positions bytes console = IsRefusedBySome (PartialRefused patterns positions bytes) console

-- The bytes are the partial log of these lines, for the patterns and positions of the dictionary.
abbrev pub IsPartialFor : Dict → Text → List Line → Type 0
IsPartialFor d bytes lines = IsPartialLog d.patterns d.positions bytes lines

abbrev pub IsRefusedPartial : Dict → Text → Text → Type 0
IsRefusedPartial d bytes console = IsRefusedPartialOf d.patterns d.positions bytes console

-- ---- logs of walks

-- The bytes are a log of answers that lead to this outcome in the plan.
abbrev pub IsLogTo : AdaptivePlan → Text → WalkOutcome → Type 0
IsLogTo plan bytes outcome = LeadsTo plan bytes outcome

-- The bytes are refused as a log of answers to the plan, and `console` is the text of the refusal.
abbrev pub IsRefusedWalk : AdaptivePlan → Text → Text → Type 0
IsRefusedWalk plan bytes console = IsRefusedBySome (WalkRefused plan bytes) console

-- ---- lists of vectors

-- The bytes are the list of these vectors, for the circuit.
abbrev pub IsListFor : Circuit → Text → List (List Bool) → Type 0
IsListFor c bytes vectors = IsVectorList c.sources bytes vectors

-- The bytes are refused as a list of vectors for the circuit, and `console` is the text of the refusal, which begins
-- with `vectors:`.
pub record IsRefusedVectors (c : Circuit) (bytes console : Text) : Type 0 where
  pub kind : LogKind
  pub line : ℕ
  pub refused : VectorsRefused c.sources bytes kind line
  pub console_is : console ≡ vectors_text kind line

-- The bytes are refused as a list of vectors for the circuit, and `console` is the text of the refusal, which begins
-- with `log:`.
abbrev pub IsRefusedList : Circuit → Text → Text → Type 0
IsRefusedList c bytes console = IsRefusedBySome (VectorsRefused c.sources bytes) console
