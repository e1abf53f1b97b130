-- What runs of `expect`, `suspects`, `cover` and `bridges` leave if their work is done.
use Rattle.std.specs.Prelude.{◌≡◌, ℕ, Option, Some}
use Rattle.std.specs.FinMap.{get}
use Rattle.diag_shelf.specs.World.{World}
use Rattle.text_fields.specs.Fields.{Text}
use Rattle.request_words.specs.Request.{Request, expect, suspects, cover, bridges}
use Rattle.run_steps.specs.Ending.{Ending, done}
use Rattle.run_steps.specs.Outcome.{ConsoleGained}
use Rattle.run_steps.specs.ResultLogs.{IsLogAt}
use Rattle.listing_commands.specs.Suspects.{IsExpectedLog, IsSuspectsText, IsCoverText}
use Rattle.listing_commands.specs.Bridges.{IsBridgesText}
use Rattle.result_records.specs.Marks.{patterns_in}
use Rattle.dia_runs.specs.BridgePromises.{ListsNoBridge, WinnersExplainAsStuck}
use Rattle.dia_runs.specs.Promises.{WasRead, HoldsTrueResult}

-- The result is valid and true. The file of the log's name has what a chip without a fault answers to the result's
-- patterns, and the console gained the log's sizes.
pub record HasExpectedLog (bench result log : Text) (old new : World) : Type 0 where
  pub read : HoldsTrueResult bench result old.files
  pub file : Text
  pub saved : get new.files log ≡ Some file
  pub text : Text
  pub made : IsExpectedLog read.design.circuit read.file file text
  pub printed : ConsoleGained text old new

-- If this is a run of `expect` and its work is done, `HasExpectedLog` holds.
abbrev pub WritesExpectedLog : Option Request → Ending → World → World → Type 0
WritesExpectedLog request ending old new = (bench result log : Text) → request ≡ Some (expect bench result log) → ending ≡ done → HasExpectedLog bench result log old new

-- The result is valid and true. The console gained the suspects of the log, at most `most` of them.
pub record HasSuspects (bench result log : Text) (most : ℕ) (old new : World) : Type 0 where
  pub read : HoldsTrueResult bench result old.files
  pub lines : WasRead old.files log (IsLogAt read.design.circuit read.file)
  pub text : Text
  pub listed : IsSuspectsText read.design.circuit read.file lines.thing most text
  pub printed : ConsoleGained text old new

-- If this is a run of `suspects` and its work is done, `HasSuspects` holds.
abbrev pub PrintsSuspects : Option Request → Ending → World → World → Type 0
PrintsSuspects request ending old new = (bench result log : Text) (most : ℕ) → request ≡ Some (suspects bench result log most) → ending ≡ done → HasSuspects bench result log most old new

-- The result is valid and true. The console gained the cover of the log.
pub record HasCover (bench result log : Text) (old new : World) : Type 0 where
  pub read : HoldsTrueResult bench result old.files
  pub lines : WasRead old.files log (IsLogAt read.design.circuit read.file)
  pub text : Text
  pub covers : IsCoverText read.design.circuit read.file lines.thing text
  pub printed : ConsoleGained text old new

-- If this is a run of `cover` and its work is done, `HasCover` holds.
abbrev pub PrintsCover : Option Request → Ending → World → World → Type 0
PrintsCover request ending old new = (bench result log : Text) → request ≡ Some (cover bench result log) → ending ≡ done → HasCover bench result log old new

-- The result is valid and true. The console gained the bridges without a loop that explain some failing pattern of the
-- log, and all except at most `within`, best first, at most `most` of them. If no pattern fails none is listed. A
-- dominant bridge without a loop whose first line shows one bit at every logged pattern explains what the stem of its
-- second line does, stuck at this bit.
pub record HasBridges (bench result log : Text) (most within : ℕ) (old new : World) : Type 0 where
  pub read : HoldsTrueResult bench result old.files
  pub lines : WasRead old.files log (IsLogAt read.design.circuit read.file)
  pub text : Text
  pub listed : IsBridgesText read.design.circuit read.design.names read.file lines.thing within most text
  pub nothing : ListsNoBridge listed.are.table lines.thing text
  pub winners : WinnersExplainAsStuck read.design.circuit (patterns_in listed.of.records) listed.are.table lines.thing
  pub printed : ConsoleGained text old new

-- If this is a run of `bridges` and its work is done, `HasBridges` holds.
abbrev pub PrintsBridges : Option Request → Ending → World → World → Type 0
PrintsBridges request ending old new = (bench result log : Text) (most within : ℕ) → request ≡ Some (bridges bench result log most within) → ending ≡ done → HasBridges bench result log most within old new
