-- What runs of `grade` and `topup` leave if their work is done.
use Rattle.std.specs.Prelude.{◌≡◌, ◌≤◌, ◌^◌, length, Option, Some}
use Rattle.std.specs.FinMap.{get}
use Rattle.diag_shelf.specs.World.{World}
use Rattle.result_records.specs.declared.record.Budgets.{Budgets}
use Rattle.result_file.specs.declared.checked.Summary.{Summary}
use Rattle.dia_gen.specs.Made.{IsMadeFrom}
use Rattle.dia_gen.specs.Laws.{IsGraded}
use Rattle.text_fields.specs.Fields.{Text}
use Rattle.request_words.specs.Request.{Request, top_up}
use Rattle.run_steps.specs.Ending.{Ending, done}
use Rattle.run_steps.specs.Netlists.{IsDesign}
use Rattle.run_steps.specs.Logs.{IsListFor}
use Rattle.run_steps.specs.Outcome.{ConsoleGained}
use Rattle.result_commands.specs.Texts.{kept_text}
use Rattle.dia_runs.specs.Promises.{WasRead}

-- The file of the result's name is one that may be made from the list for the netlist's circuit: it is valid and true,
-- and its first patterns are the vectors of the list that split a class of those kept before. The console gained what
-- it amounts to and how many vectors were kept.
pub record HasTopUp (bench vectors result : Text) (budgets : Budgets) (old new : World) : Type 0 where
  pub netlist : WasRead old.files bench IsDesign
  pub list : WasRead old.files vectors (IsListFor netlist.thing.circuit)
  pub file : Text
  pub saved : get new.files result ≡ Some file
  pub summary : Summary
  pub made : IsMadeFrom netlist.thing.circuit list.thing budgets summary file
  -- Numbers of one class answer alike to the whole list, no pattern that was found is in it, and without budgets the
  -- classes are those of the list.
  pub graded : IsGraded netlist.thing.circuit list.thing budgets made.is_true.stated made.later
  -- If there are at least as many cubes as vectors no member is left open.
  pub closed : 2 ^ netlist.thing.circuit.sources ≤ budgets.cubes → summary.spent ≡ 0
  pub printed : ConsoleGained (kept_text summary (length made.kept) (length list.thing)) old new

-- If this is a run of `grade` or `topup` and its work is done, `HasTopUp` holds.
abbrev pub TopsUpResult : Option Request → Ending → World → World → Type 0
TopsUpResult request ending old new = (bench vectors result : Text) (budgets : Budgets) → request ≡ Some (top_up bench vectors result budgets) → ending ≡ done → HasTopUp bench vectors result budgets old new
