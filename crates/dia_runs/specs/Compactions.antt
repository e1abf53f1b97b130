-- What a run of `compact` leaves if its work is done.
use Rattle.std.specs.Prelude.{◌≡◌, Option, Some}
use Rattle.std.specs.FinMap.{get}
use Rattle.diag_shelf.specs.World.{World}
use Rattle.compact_tests.specs.declared.thin.Thin.{Thin}
use Rattle.compact_tests.specs.Compacted.{IsCompacted, IsSound}
use Rattle.text_fields.specs.Fields.{Text}
use Rattle.request_words.specs.Request.{Request, compact}
use Rattle.run_steps.specs.Ending.{Ending, done}
use Rattle.result_commands.specs.Texts.{dropped_text}
use Rattle.run_steps.specs.Outcome.{ConsoleGained}
use Rattle.dia_runs.specs.Promises.{HoldsTrueResult}

-- The result is valid and true. The file of the new name has what is left of it, which is valid, has the same classes
-- and no pattern too many. The console gained what that amounts to, and how many patterns were dropped.
pub record HasCompacted (bench result name : Text) (old new : World) : Type 0 where
  pub read : HoldsTrueResult bench result old.files
  pub thin : Thin
  pub compacted : IsCompacted read.design.circuit read.file thin
  pub sound : IsSound read.design.circuit compacted.records compacted.left
  pub saved : get new.files name ≡ Some thin.text
  pub printed : ConsoleGained (dropped_text thin.summary thin.dropped) old new

-- If this is a run of `compact` and its work is done, `HasCompacted` holds.
abbrev pub CompactsResult : Option Request → Ending → World → World → Type 0
CompactsResult request ending old new = (bench result name : Text) → request ≡ Some (compact bench result name) → ending ≡ done → HasCompacted bench result name old new
