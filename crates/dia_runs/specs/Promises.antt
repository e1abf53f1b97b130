-- What is promised of a run: what it leaves, and how the files that it reads decide its ending.
use Rattle.std.specs.Prelude.{◌^◌, ◌≡◌, ◌≢◌, ℕ, ◌≤◌, ◌⊎◌, Option, Some, None, IsTrue, ⊤}
use Rattle.std.specs.FinMap.{get}
use Rattle.diag_shelf.specs.World.{Files, World, State}
use Rattle.diag_shelf.specs.Calls.{Rose}
use Rattle.net_model.specs.declared.circuit.Design.{Design}
use Rattle.bench_reader.specs.Netlist.{Netlist}
use Rattle.bench_reader.specs.Spelled.{IsAsWritten}
use Rattle.scan_cut.specs.Cut.{cut_design}
use Rattle.result_records.specs.declared.record.Budgets.{Budgets}
use Rattle.result_file.specs.declared.checked.Summary.{Summary}
use Rattle.result_file.specs.Summary.{summary_of}
use Rattle.result_file.specs.Valid.{IsValidFile}
use Rattle.result_file.specs.Meaning.{stated_records, IsTrueFile}
use Rattle.dia_gen.specs.Made.{IsMade}
use Rattle.text_fields.specs.Fields.{Text}
use Rattle.request_words.specs.Request.{Request, gen, check, list_faults, synth}
use Rattle.run_steps.specs.declared.ending.FileKind.{FileKind}
use Rattle.run_steps.specs.Ending.{Ending, done, refused, not_understood, read_failed, no_memory, IsRefusal, IsDecided}
use Rattle.result_commands.specs.Synthesis.{synth_budgets}
use Rattle.synth_netlist.specs.Synth.{synth_statements, synth_text}
use Rattle.result_commands.specs.Texts.{summary_text, valid_text}
use Rattle.run_steps.specs.Netlists.{IsDesign, IsRefused}
use Rattle.listing_commands.specs.Faults.{IsFaultsText}
use Rattle.run_steps.specs.Outcome.{KeepsFiles, ConsoleGained}
use Rattle.run_steps.specs.Plan.{Plan, IsClear, IsRefusedWith, AreAccepted}
use Rattle.dia_runs.specs.Requests.{plan_of}

-- The file of this name was read, and accepted as `thing`.
pub record WasRead (files : Files) (name : Text) {X : Type 0} (Accepted : Text → X → Type 0) : Type 0 where
  pub bytes : Text
  pub held : get files name ≡ Some bytes
  pub thing : X
  pub accepted : Accepted bytes thing

-- If the words aren't understood, a file is refused or a read failed, no file was created or changed.
abbrev pub KeepsUnlessDone : Ending → World → World → Type 0
KeepsUnlessDone ending old new = (ending ≡ not_understood) ⊎ (IsRefusal ending ⊎ (ending ≡ read_failed)) → KeepsFiles old new

-- The file of the result's name is one that the generator may write for the circuit of a netlist's bytes, and its lines
-- state what is true. The console gained what it amounts to. If there are at least as many cubes as vectors no member
-- is left open.
pub record LeavesResult (bytes result : Text) (budgets : Budgets) (old new : World) : Type 0 where
  pub design : Design
  pub accepted : IsDesign bytes design
  pub file : Text
  pub saved : get new.files result ≡ Some file
  pub summary : Summary
  pub made : IsMade design.circuit budgets summary file
  pub closed : 2 ^ design.circuit.sources ≤ budgets.cubes → summary.spent ≡ 0
  pub printed : ConsoleGained (summary_text summary) old new

-- A result was left for the netlist that was read.
pub record HasResult (bench result : Text) (budgets : Budgets) (old new : World) : Type 0 where
  pub bytes : Text
  pub held : get old.files bench ≡ Some bytes
  pub leaves : LeavesResult bytes result budgets old new

-- If this is a run of `gen` and its work is done, `HasResult` holds.
abbrev pub GeneratesResult : Option Request → Ending → World → World → Type 0
GeneratesResult request ending old new = (bench result : Text) (budgets : Budgets) → request ≡ Some (gen bench result budgets) → ending ≡ done → HasResult bench result budgets old new

-- The file of the netlist's name has the text of the number, if the result has another name, and a result was left for
-- that netlist.
pub record HasSynth (n : ℕ) (bench result : Text) (old new : World) : Type 0 where
  pub netlist : bench ≢ result → get new.files bench ≡ Some (synth_text n)
  pub leaves : LeavesResult (synth_text n) result synth_budgets old new

-- If this is a run of `synth` and its work is done, `HasSynth` holds.
abbrev pub Synthesizes : Option Request → Ending → World → World → Type 0
Synthesizes request ending old new = (n : ℕ) (bench result : Text) → request ≡ Some (synth n bench result) → ending ≡ done → HasSynth n bench result old new

-- The files hold a netlist and a result that is valid for its circuit, and what the result states is true of the
-- circuit.
pub record HoldsTrueResult (bench result : Text) (files : Files) : Type 0 where
  pub bytes : Text
  pub held : get files bench ≡ Some bytes
  pub design : Design
  pub accepted : IsDesign bytes design
  pub file : Text
  pub there : get files result ≡ Some file
  pub valid : IsValidFile design.circuit file
  pub budgets : Budgets
  pub is_true : IsTrueFile design.circuit budgets file

-- The result is valid and true, and the console gained what it amounts to.
pub record HasValid (bench result : Text) (old new : World) : Type 0 where
  pub read : HoldsTrueResult bench result old.files
  pub printed : ConsoleGained (valid_text (summary_of (stated_records read.design.circuit read.is_true.stated))) old new

-- If this is a run of `check` and its work is done, `HasValid` holds.
abbrev pub ChecksResult : Option Request → Ending → World → World → Type 0
ChecksResult request ending old new = (bench result : Text) → request ≡ Some (check bench result) → ending ≡ done → HasValid bench result old new

-- The netlist was accepted, and the console gained all faults of its circuit with their roots.
pub record HasFaults (bench : Text) (old new : World) : Type 0 where
  pub netlist : WasRead old.files bench IsDesign
  pub text : Text
  pub lists : IsFaultsText netlist.thing text
  pub printed : ConsoleGained text old new

-- If this is a run of `faults` and its work is done, `HasFaults` holds.
abbrev pub PrintsFaults : Option Request → Ending → World → World → Type 0
PrintsFaults request ending old new = (bench : Text) → request ≡ Some (list_faults bench) → ending ≡ done → HasFaults bench old new

-- The netlist of the number is accepted as a design: the cut of what its text reads as, which has the statements of the
-- number.
pub record IsAcceptedNumber (n : ℕ) : Type 0 where
  pub netlist : Netlist
  pub written : IsAsWritten (synth_statements n) netlist
  pub design : IsDesign (synth_text n) (cut_design netlist)

-- The netlist of each number up to 2,000 is accepted, as `IsAcceptedNumber` has it.
abbrev pub EachNumberIsAccepted : Type 0
EachNumberIsAccepted = (n : ℕ) → n ≤ 2000 → IsAcceptedNumber n

-- The netlist of a number up to 2,000 is never refused.
abbrev pub NoNumberIsRefused : Type 0
NoNumberIsRefused = (n : ℕ) (console : Text) → n ≤ 2000 → IsRefused (synth_text n) console → ⊥

-- For every request, no file that is read is both refused and accepted, accepted as two things, or refused with two
-- texts, and the work is done if all are accepted.
abbrev pub FilesAreJudgedOnce : Type 0
FilesAreJudgedOnce = (request : Request) → IsClear (plan_of (Some request))

-- The files that are read decide the ending: a refusal comes exactly for a file that is refused, and the console gained
-- its text.
pub record FilesDecide (plan : Plan) (ending : Ending) (old new : World) : Type 0 where
  -- An ending that words and files decide and that isn't `done` is the refusal of a file that is refused, and the
  -- console gained the text of the refusal.
  pub only : IsDecided ending → ending ≢ done → (kind : FileKind) × (console : Text) × (ending ≡ refused kind) × IsRefusedWith old.files plan kind console × ConsoleGained console old new
  -- If a file is refused, each ending that words and files decide is the refusal of its kind.
  pub by_refusal : (kind : FileKind) (console : Text) → IsRefusedWith old.files plan kind console → IsDecided ending → ending ≡ refused kind
  -- If all files are accepted, each ending that words and files decide is `done`.
  pub accepted : AreAccepted old.files plan → IsDecided ending → ending ≡ done

-- If the words ask for something, `FilesDecide` holds for the plan of the request.
abbrev pub DecidedByFiles : Option Request → Ending → World → World → Type 0
DecidedByFiles asked ending old new = asked ≢ None → FilesDecide (plan_of asked) ending old new

-- On a shelf that tells its world: if the words ask for something, each file that is read is accepted and neither count
-- of faults rose, the work is done or memory was missing.
abbrev pub IsComplete : Option Request → Ending → State → State → Type 0
IsComplete asked ending old new = asked ≢ None → IsTrue old.tells → AreAccepted old.world.files (plan_of asked) → ¬ Rose old.read_faults new.read_faults → ¬ Rose old.write_faults new.write_faults
    → (ending ≡ done) ⊎ (ending ≡ no_memory)

-- The words aren't understood, or a file that is read is refused.
abbrev pub IsRefusedRequest : Option Request → World → Type 0
IsRefusedRequest None old = ⊤
IsRefusedRequest (Some request) old = (kind : FileKind) × ((console : Text) × IsRefusedWith old.files (plan_of (Some request)) kind console)

-- If the words aren't understood, or a file that is read is refused, no file is created or changed, whatever the
-- ending.
abbrev pub KeepsRefused : Option Request → World → World → Type 0
KeepsRefused asked old new = IsRefusedRequest asked old → KeepsFiles old new
