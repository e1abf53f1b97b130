-- The plans of the commands that make, check or compact a result.
use Rattle.result_commands.specs.Compactions.{IsMadeThin}
use Rattle.run_steps.specs.Ending.{Ending, done}
use Rattle.run_steps.specs.Netlists.{IsDesign}
use Rattle.run_steps.specs.Outcome.{Outcome, saved, IsCut}
use Rattle.result_commands.specs.Synthesis.{synth_budgets}
use Rattle.run_steps.specs.Plan.{Plan, finish, IsLeftBy}
use Rattle.result_commands.specs.Checked.{IsValidText}
use Rattle.result_commands.specs.Texts.{kept_text, summary_text}
use Rattle.dia_gen.specs.declared.output.ToppedUp.{ToppedUp}
use Rattle.dia_gen.specs.Made.{IsToppedUp, IsMade, IsCutFile}
use Rattle.diag_shelf.specs.World.{State}
use Rattle.net_model.specs.Circuit.{Circuit}
use Rattle.net_model.specs.declared.circuit.Design.{Design}
use Rattle.result_file.specs.declared.checked.Summary.{Summary}
use Rattle.result_records.specs.declared.record.Budgets.{Budgets}
use Rattle.std.specs.Prelude.{◌≡◌, List, [], ◌∷◌, ◌++◌, ℕ, Bool, length}
use Rattle.synth_netlist.specs.Synth.{synth_text}
use Rattle.text_fields.specs.Fields.{Text}
use Rattle.run_steps.specs.Plans.{with_netlist, with_result, with_list, says, makes_file}
use Rattle.run_steps.specs.Ran.{Ends}

-- ---- what is done with them

-- The outcome is to save the files `before` and then a file that may be made, as the result, and to print its text.
pub record MakesResult (before : List (Text × Text)) (result : Text) (AreMade : Text → Text → Type 0) (o : Outcome) : Type 0 where
  pub file : Text
  pub text : Text
  pub made : AreMade file text
  pub outcome : o ≡ saved (before ++ (result, file) ∷ []) text

-- What is there of the files `before` and then a result that was cut short: a beginning of lines that are right for the
-- circuit. Nothing is printed.
pub record IsCutResult (before : List (Text × Text)) (result : Text) (c : Circuit) (made : List (Text × Text)) (text : Text) : Type 0 where
  pub part : Text
  pub lines : IsCutFile c part
  pub files : IsCut made (before ++ (result, part) ∷ [])
  pub silent : text ≡ []

-- What is left is a part of the files and the text that `MakesResult` saves, or is a result that was cut short.
abbrev pub IsResultPart : Circuit → (Text → Text → Type 0) → List (Text × Text) → Text → List (Text × Text) → Text → Type 0
IsResultPart c AreMade before result = IsLeftBy (MakesResult before result AreMade) (IsCutResult before result c)

abbrev pub makes_result : Text → (Text → Text → Type 0) → Circuit → Plan
makes_result result AreMade c = finish (MakesResult [] result AreMade) (IsCutResult [] result c)

-- The file may be made for the circuit with these budgets, and the text says what it amounts to.
pub record IsGenerated (c : Circuit) (budgets : Budgets) (file text : Text) : Type 0 where
  pub summary : Summary
  pub made : IsMade c budgets summary file
  pub text_is : text ≡ summary_text summary

-- The file may be made from the list with these budgets, and the text says what it amounts to and how many vectors were
-- kept.
pub record IsToppedUpFile (c : Circuit) (vectors : List (List Bool)) (budgets : Budgets) (file text : Text) : Type 0 where
  pub topped : ToppedUp
  pub is : IsToppedUp c vectors budgets topped file
  pub text_is : text ≡ kept_text topped.summary topped.kept (length vectors)

-- the plan to make a netlist under this name, and then a result of its circuit
abbrev pub makes_both : Text → Text → Text → Budgets → Plan
makes_both bench netlist result budgets = finish (λ o. (design : Design) × IsDesign netlist design × MakesResult ((bench, netlist) ∷ []) result (IsGenerated design.circuit budgets) o)
    (λ made text. (design : Design) × IsDesign netlist design × IsCutResult ((bench, netlist) ∷ []) result design.circuit made text)

-- After the files `before` a result of the circuit was saved under this name and its text printed, or a part of that
-- was done. If the ending is `done`, the result is a file that may be made.
pub record SavesResult (c : Circuit) (AreMade : Text → Text → Type 0) (before : List (Text × Text)) (result : Text) (ending : Ending) (old new : State) : Type 0 where
  pub file : Text
  pub text : Text
  pub ends : Ends (saved (before ++ (result, file) ∷ []) text) (IsResultPart c AreMade before result) ending old new
  pub made : ending ≡ done → AreMade file text

-- ---- each command

-- `gen` reads the netlist, and makes a result for its circuit
abbrev pub gen_plan : Text → Text → Budgets → Plan
gen_plan bench result budgets = with_netlist bench (λ design. makes_result result (IsGenerated design.circuit budgets) design.circuit)

-- `grade` and `topup` read the netlist and then the list of vectors, and make a result for the circuit from the list
abbrev pub top_up_plan : Text → Text → Text → Budgets → Plan
top_up_plan bench vectors result budgets = with_netlist bench (λ design. with_list vectors design.circuit (λ list. makes_result result (IsToppedUpFile design.circuit list budgets) design.circuit))

-- `check` reads the netlist and then the result, and prints what a valid result amounts to
abbrev pub check_plan : Text → Text → Plan
check_plan bench result = with_netlist bench (λ design. with_result result design.circuit (λ file. says (IsValidText design.circuit file)))

-- `compact` reads the netlist and then the result, and makes what is left of a valid result
abbrev pub compact_plan : Text → Text → Text → Plan
compact_plan bench result new = with_netlist bench (λ design. with_result result design.circuit (λ file. makes_file new (IsMadeThin design.circuit file)))

-- `synth` reads no file, and makes the netlist of a number and then a result for it
abbrev pub synth_plan : ℕ → Text → Text → Plan
synth_plan n bench result = makes_both bench (synth_text n) result synth_budgets
