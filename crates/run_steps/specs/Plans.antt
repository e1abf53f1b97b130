-- The steps of plans: the files that are read, and what is done at the end.
use Rattle.std.specs.Prelude.{◌≡◌, Bool, List, [], ◌∷◌, length}
use Rattle.net_model.specs.declared.circuit.Design.{Design}
use Rattle.net_model.specs.Circuit.{Circuit}
use Rattle.text_fields.specs.Fields.{Text}
use Rattle.run_steps.specs.Texts.{not_understood_text}
use Rattle.run_steps.specs.Netlists.{IsDesign, IsRefused}
use Rattle.run_steps.specs.Results.{IsResult, IsRefusedResult}
use Rattle.dict_rows.specs.declared.dict.Dict.{Dict}
use Rattle.run_steps.specs.Dictionaries.{IsDictionaryFile, IsRefusedDictionary}
use Rattle.ranked_diag.specs.PartialLog.{Line, IsPartialLog}
use Rattle.adaptive_tree.specs.declared.outcome.Outcome.{Outcome as WalkOutcome}
use Rattle.adaptive_tree.specs.declared.steps.Plan.{Plan as AdaptivePlan}
use Rattle.run_steps.specs.Logs.{IsLogFor, IsRefusedLog, IsPartialFor, IsRefusedPartial, IsRefusedPartialOf, IsLogTo, IsRefusedWalk, IsListFor, IsRefusedList, IsRefusedVectors}
use Rattle.run_steps.specs.AdaptivePlans.{IsAdaptivePlanFile, IsRefusedPlan}
use Rattle.run_steps.specs.ResultLogs.{IsLogAt, IsRefusedAt}
use Rattle.run_steps.specs.declared.ending.FileKind.TheVariants as kind
use Rattle.run_steps.specs.Ending.{Ending, done, not_understood}
use Rattle.run_steps.specs.Outcome.{said, saved}
use Rattle.run_steps.specs.Plan.{Plan, finish, judged}
use Rattle.run_steps.specs.Ran.{broken_endings}

-- ---- files that are read

-- Reads a netlist, and goes on with its design.
abbrev pub with_netlist : Text → (Design → Plan) → Plan
with_netlist bench next = judged bench kind.Netlist Design IsRefused IsDesign next

-- Reads a result for the circuit, and goes on with its bytes.
abbrev pub with_result : Text → Circuit → (Text → Plan) → Plan
with_result result c next = judged result kind.Result Text (IsRefusedResult c) (IsResult c) next

-- Reads a dictionary, and goes on with it.
abbrev pub with_dictionary : Text → (Dict → Plan) → Plan
with_dictionary dict next = judged dict kind.Dictionary Dict IsRefusedDictionary IsDictionaryFile next

-- Reads a log for the dictionary, and goes on with the observed answers.
abbrev pub with_log : Text → Dict → (List (List Bool) → Plan) → Plan
with_log log d next = judged log kind.Log (List (List Bool)) (IsRefusedLog d) (IsLogFor d) next

-- Reads a partial log for the dictionary, and goes on with its lines.
abbrev pub with_partial : Text → Dict → (List Line → Plan) → Plan
with_partial log d next = judged log kind.Log (List Line) (IsRefusedPartial d) (IsPartialFor d) next

-- Reads a partial log for the result, and goes on with its lines.
abbrev pub with_log_at : Text → Circuit → Text → (List Line → Plan) → Plan
with_log_at log c result next = judged log kind.Log (List Line) (IsRefusedAt c result) (IsLogAt c result) next

-- Reads an adaptive plan, and goes on with it.
abbrev pub with_adaptive_plan : Text → (AdaptivePlan → Plan) → Plan
with_adaptive_plan plan next = judged plan kind.AdaptivePlan AdaptivePlan IsRefusedPlan IsAdaptivePlanFile next

-- Reads a log of answers to the adaptive plan, and goes on with the outcome to which they lead.
abbrev pub with_walk : Text → AdaptivePlan → (WalkOutcome → Plan) → Plan
with_walk log plan next = judged log kind.Log WalkOutcome (IsRefusedWalk plan) (IsLogTo plan) next

-- Reads a list of vectors for the circuit, and goes on with them. The text of a refusal begins with `log:`.
abbrev pub with_vectors : Text → Circuit → (List (List Bool) → Plan) → Plan
with_vectors vectors c next = judged vectors kind.Log (List (List Bool)) (IsRefusedList c) (IsListFor c) next

-- Reads a list of vectors for the circuit, in a command that may read a log too, and goes on with them. The text of a
-- refusal begins with `vectors:`.
abbrev pub with_list : Text → Circuit → (List (List Bool) → Plan) → Plan
with_list vectors c next = judged vectors kind.Log (List (List Bool)) (IsRefusedVectors c) (IsListFor c) next

-- Reads a partial log whose lines have the numbers of these vectors, and goes on with its lines.
abbrev pub with_log_of : Text → Circuit → List (List Bool) → (List Line → Plan) → Plan
with_log_of log c vectors next = judged log kind.Log (List Line) (IsRefusedPartialOf (length vectors) (length c.positions)) (IsPartialLog (length vectors) (length c.positions)) next

-- ---- what is done with them

-- All is made before anything is written: no output is cut short while it is made.
abbrev pub never_cut : List (Text × Text) → Text → Type 0
never_cut made text = ⊥

-- Prints a text for which `IsText` holds.
abbrev pub says : (Text → Type 0) → Plan
says IsText = finish (λ o. (text : Text) × IsText text × (o ≡ said done text)) never_cut

-- Makes a file under this name and prints a text, for which `AreMade` holds.
abbrev pub makes_file : Text → (Text → Text → Type 0) → Plan
makes_file name AreMade = finish (λ o. (file : Text) × (text : Text) × AreMade file text × (o ≡ saved ((name, file) ∷ []) text)) never_cut

-- ---- words

-- The plan for words that ask for nothing: it says that they aren't understood.
abbrev pub words_plan : Plan
words_plan = finish (λ o. o ≡ said not_understood not_understood_text) never_cut

-- The endings of a run whose words ask for nothing.
abbrev pub words_endings : List Ending
words_endings = not_understood ∷ broken_endings
