-- The plans of `gen` and of `check`, written out: what a run must do with the files that it reads, and what it may
-- leave if it breaks off. Laws say that the plans call for exactly this and may leave exactly this.
use Rattle.std.specs.Prelude.{◌≡◌, ◌↔◌, List, [], ◌∷◌, Some}
use Rattle.std.specs.FinMap.{get}
use Rattle.diag_shelf.specs.World.{Files}
use Rattle.net_model.specs.declared.circuit.Design.{Design}
use Rattle.result_records.specs.declared.record.Budgets.{Budgets}
use Rattle.result_records.specs.declared.record.Record.{Record}
use Rattle.result_file.specs.declared.checked.Summary.{Summary}
use Rattle.result_records.specs.Spelling.{text_of}
use Rattle.result_file.specs.Summary.{summary_of}
use Rattle.result_file.specs.Valid.{IsValid, IsValidFile}
use Rattle.dia_gen.specs.Made.{IsMade, IsCutFile}
use Rattle.text_fields.specs.Fields.{Text}
use Rattle.run_steps.specs.declared.ending.FileKind.TheVariants as kind
use Rattle.run_steps.specs.Ending.{done, refused}
use Rattle.result_commands.specs.Texts.{summary_text, valid_text}
use Rattle.run_steps.specs.Netlists.{IsDesign, IsRefused}
use Rattle.run_steps.specs.Results.{IsRefusedResult}
use Rattle.run_steps.specs.Outcome.{Outcome, said, saved, IsCut, IsCutText, IsPartOf}
use Rattle.run_steps.specs.Plan.{CallsFor, MayLeave}
use Rattle.result_commands.specs.Plans.{gen_plan, check_plan}

-- ---- gen

-- This outcome is what a run of `gen` must do with these files.
pub data GenCallsFor (files : Files) (bench result : Text) (budgets : Budgets) (o : Outcome) : Type 0 where
  -- The netlist's file is refused, and the text of the refusal is printed.
  gen_refused : (bytes console : Text) → get files bench ≡ Some bytes → IsRefused bytes console
      → o ≡ said (refused kind.Netlist) console → GenCallsFor files bench result budgets o
  -- It is accepted as a design; a file that may be made for its circuit is saved under the result's name, and its
  -- summary is printed.
  gen_made : (bytes : Text) (design : Design) (file : Text) (summary : Summary) → get files bench ≡ Some bytes → IsDesign bytes design → IsMade design.circuit budgets summary file
      → o ≡ saved ((result, file) ∷ []) (summary_text summary) → GenCallsFor files bench result budgets o

-- These files and this text are what a run of `gen` may leave if it breaks off.
pub data GenMayLeave (files : Files) (bench result : Text) (budgets : Budgets) (made : List (Text × Text)) (text : Text) : Type 0 where
  -- The netlist's file is refused: no file is made, and a beginning of the refusal's text is printed.
  gen_refusal_begun : (bytes console : Text) → get files bench ≡ Some bytes → IsRefused bytes console
      → made ≡ [] → IsCutText text console → GenMayLeave files bench result budgets made text
  -- It is accepted: a file that may be made is there, or a beginning of it, and if it is whole a beginning of its
  -- summary is printed.
  gen_file_begun : (bytes : Text) (design : Design) (file : Text) (summary : Summary) → get files bench ≡ Some bytes → IsDesign bytes design → IsMade design.circuit budgets summary file
      → IsPartOf (saved ((result, file) ∷ []) (summary_text summary)) made text → GenMayLeave files bench result budgets made text
  -- It is accepted: a beginning of lines that are right for the circuit is there, and nothing is printed.
  gen_cut : (bytes : Text) (design : Design) (part : Text) → get files bench ≡ Some bytes → IsDesign bytes design → IsCutFile design.circuit part
      → IsCut made ((result, part) ∷ []) → text ≡ [] → GenMayLeave files bench result budgets made text

-- The plan of `gen` calls for exactly this, and may leave exactly this.
pub record GenIsWrittenOut : Type 0 where
  pub calls_for : (files : Files) (bench result : Text) (budgets : Budgets) (o : Outcome) → CallsFor files (gen_plan bench result budgets) o ↔ GenCallsFor files bench result budgets o
  pub may_leave : (files : Files) (bench result : Text) (budgets : Budgets) (made : List (Text × Text)) (text : Text) → MayLeave files (gen_plan bench result budgets) made text ↔ GenMayLeave files bench result budgets made text

-- ---- check

-- This outcome is what a run of `check` must do with these files.
pub data CheckCallsFor (files : Files) (bench result : Text) (o : Outcome) : Type 0 where
  -- The netlist's file is refused, and the text of the refusal is printed.
  check_netlist_refused : (bytes console : Text) → get files bench ≡ Some bytes → IsRefused bytes console
      → o ≡ said (refused kind.Netlist) console → CheckCallsFor files bench result o
  -- It is accepted as a design, the result's file is refused for its circuit, and the text of that refusal is printed.
  check_result_refused : (bytes file console : Text) (design : Design) → get files bench ≡ Some bytes → IsDesign bytes design → get files result ≡ Some file → IsRefusedResult design.circuit file console
      → o ≡ said (refused kind.Result) console → CheckCallsFor files bench result o
  -- The result's file is valid for the circuit, and what its lines amount to is printed.
  check_accepted : (bytes file : Text) (design : Design) (records : List Record) → get files bench ≡ Some bytes → IsDesign bytes design → get files result ≡ Some file → IsValidFile design.circuit file
      → file ≡ text_of records → IsValid design.circuit records → o ≡ said done (valid_text (summary_of records)) → CheckCallsFor files bench result o

-- This is what a run of `check` may leave if it breaks off: no file, and a beginning of the text that must be printed.
pub record CheckMayLeave (files : Files) (bench result : Text) (made : List (Text × Text)) (text : Text) : Type 0 where
  pub o : Outcome
  pub called : CheckCallsFor files bench result o
  pub none : made ≡ []
  pub begun : IsCutText text o.console

-- The plan of `check` calls for exactly this, and may leave exactly this.
pub record CheckIsWrittenOut : Type 0 where
  pub calls_for : (files : Files) (bench result : Text) (o : Outcome) → CallsFor files (check_plan bench result) o ↔ CheckCallsFor files bench result o
  pub may_leave : (files : Files) (bench result : Text) (made : List (Text × Text)) (text : Text) → MayLeave files (check_plan bench result) made text ↔ CheckMayLeave files bench result made text
