-- What runs of `expect`, `suspects`, `cover` and `bridges` with a list of vectors that were applied leave if their work
-- is done.
use Rattle.std.specs.Prelude.{◌≡◌, ◌<◌, ℕ, length, Option, Some}
use Rattle.std.specs.FinMap.{get}
use Rattle.diag_shelf.specs.World.{World}
use Rattle.net_model.specs.Circuit.{Circuit}
use Rattle.net_model.specs.FaultList.{fault_count}
use Rattle.net_model.specs.ClassTable.{ClassTable, class_at}
use Rattle.result_records.specs.declared.record.Mark.TheVariants as mark
use Rattle.result_file.specs.Meaning.{StatedResult, stated_mark, lowest_mate}
use Rattle.ranked_diag.specs.PartialLog.{IsPartialLog}
use Rattle.text_fields.specs.Fields.{Text}
use Rattle.request_words.specs.Request.{Request, expect_at, suspects_at, cover_at, bridges_at}
use Rattle.run_steps.specs.Ending.{Ending, done}
use Rattle.run_steps.specs.Logs.{IsListFor}
use Rattle.run_steps.specs.Outcome.{ConsoleGained}
use Rattle.listing_commands.specs.Applied.{IsExpectedAt, IsSuspectsAt, IsCoverAt, IsBridgesAt}
use Rattle.dia_runs.specs.BridgePromises.{ListsNoBridge, WinnersExplainAsStuck}
use Rattle.dia_runs.specs.Promises.{WasRead, HoldsTrueResult}

-- Each number that the result states to be equal is of one class with the lowest of its stated class.
abbrev pub EqualStayTogether : Circuit → StatedResult → ClassTable → Type 0
EqualStayTogether c s t = (n : ℕ) → n < fault_count c → stated_mark s n ≡ mark.Equal → class_at t n ≡ class_at t (lowest_mate s n)

-- ---- the log of a chip without a fault

-- The result is valid and true. The file of the log's name has what a chip without a fault answers to the list's
-- vectors, and the console gained the log's sizes.
pub record HasExpectedAt (bench result log vectors : Text) (old new : World) : Type 0 where
  pub read : HoldsTrueResult bench result old.files
  pub list : WasRead old.files vectors (IsListFor read.design.circuit)
  pub file : Text
  pub saved : get new.files log ≡ Some file
  pub text : Text
  pub made : IsExpectedAt read.design.circuit list.thing file text
  pub printed : ConsoleGained text old new

-- If this is a run of `expect` with a list and its work is done, `HasExpectedAt` holds.
abbrev pub WritesExpectedAt : Option Request → Ending → World → World → Type 0
WritesExpectedAt request ending old new = (bench result log vectors : Text) → request ≡ Some (expect_at bench result log vectors) → ending ≡ done → HasExpectedAt bench result log vectors old new

-- ---- suspects

-- The result is valid and true. The console gained the suspects of the log of the list's vectors, at most `most` of
-- them.
pub record HasSuspectsAt (bench result log : Text) (most : ℕ) (vectors : Text) (old new : World) : Type 0 where
  pub read : HoldsTrueResult bench result old.files
  pub list : WasRead old.files vectors (IsListFor read.design.circuit)
  pub lines : WasRead old.files log (IsPartialLog (length list.thing) (length read.design.circuit.positions))
  pub text : Text
  pub listed : IsSuspectsAt read.design.circuit read.file list.thing lines.thing most text
  -- A number that the result marks equal has the score of the lowest of its class.
  pub equal : EqualStayTogether read.design.circuit read.is_true.stated listed.classes
  pub printed : ConsoleGained text old new

-- If this is a run of `suspects` with a list and its work is done, `HasSuspectsAt` holds.
abbrev pub PrintsSuspectsAt : Option Request → Ending → World → World → Type 0
PrintsSuspectsAt request ending old new = (bench result log : Text) (most : ℕ) (vectors : Text) → request ≡ Some (suspects_at bench result log most vectors) → ending ≡ done → HasSuspectsAt bench result log most vectors old new

-- ---- covers

-- The result is valid and true. The console gained the cover of the log of the list's vectors.
pub record HasCoverAt (bench result log vectors : Text) (old new : World) : Type 0 where
  pub read : HoldsTrueResult bench result old.files
  pub list : WasRead old.files vectors (IsListFor read.design.circuit)
  pub lines : WasRead old.files log (IsPartialLog (length list.thing) (length read.design.circuit.positions))
  pub text : Text
  pub covers : IsCoverAt read.design.circuit read.file list.thing lines.thing text
  -- A number that the result marks equal explains what the lowest of its class does.
  pub equal : EqualStayTogether read.design.circuit read.is_true.stated covers.classes
  pub printed : ConsoleGained text old new

-- If this is a run of `cover` with a list and its work is done, `HasCoverAt` holds.
abbrev pub PrintsCoverAt : Option Request → Ending → World → World → Type 0
PrintsCoverAt request ending old new = (bench result log vectors : Text) → request ≡ Some (cover_at bench result log vectors) → ending ≡ done → HasCoverAt bench result log vectors old new

-- ---- bridges

-- The result is valid and true. The console gained the bridges without a loop that explain some failing pattern of the
-- log of the list's vectors, and all except at most `within`, best first, at most `most` of them. If no pattern fails
-- none is listed. A dominant bridge without a loop whose first line shows one bit at every logged pattern explains what
-- the stem of its second line does, stuck at this bit.
pub record HasBridgesAt (bench result log : Text) (most within : ℕ) (vectors : Text) (old new : World) : Type 0 where
  pub read : HoldsTrueResult bench result old.files
  pub list : WasRead old.files vectors (IsListFor read.design.circuit)
  pub lines : WasRead old.files log (IsPartialLog (length list.thing) (length read.design.circuit.positions))
  pub text : Text
  pub listed : IsBridgesAt read.design.circuit read.design.names read.file list.thing lines.thing within most text
  pub nothing : ListsNoBridge listed.are.table lines.thing text
  pub winners : WinnersExplainAsStuck read.design.circuit list.thing listed.are.table lines.thing
  pub printed : ConsoleGained text old new

-- If this is a run of `bridges` with a list and its work is done, `HasBridgesAt` holds.
abbrev pub PrintsBridgesAt : Option Request → Ending → World → World → Type 0
PrintsBridgesAt request ending old new = (bench result log : Text) (most within : ℕ) (vectors : Text) → request ≡ Some (bridges_at bench result log most within vectors) → ending ≡ done → HasBridgesAt bench result log most within vectors old new
