-- What is written to a shelf, and how writing breaks off.
use Rattle.std.specs.Prelude.{◌≡◌, ◌++◌, Result, Err, IsTrue, OnOk, OnErr, IsErrOf, None}
use Rattle.diag_shelf.specs.World.{State}
use Rattle.diag_shelf.specs.Calls.{SameFacts, Told, OfSome, Writes, IsWriteCall}
use Rattle.diag_shelf.specs.declared.shelf.ShelfFault.{ShelfFault}
use Rattle.diag_shelf.specs.declared.shelf.ShelfFault.TheVariants.{Failed}
use Rattle.net_model.specs.Circuit.{Circuit}
use Rattle.text_fields.specs.Fields.{Text}
use Rattle.dia_gen.specs.Made.{IsCutFile}

-- The text was written if the shelf tells its files. Nothing failed, so the facts and counts of the shelf are as
-- before.
pub record HasWritten (text : Text) (old new : State) : Type 0 where
  pub facts : SameFacts old new
  pub written : Told old new (Writes text)

-- A text was appended to a waiting one. What is waiting now is the end of both, and all before it was written. Nothing
-- failed.
pub record HasGathered (text before after : Text) (old new : State) : Type 0 where
  pub done : Text
  pub is : before ++ text ≡ done ++ after
  pub written : HasWritten done old new

-- A call that writes appends a text to a waiting one. After an error a beginning of both was written. On a sure shelf
-- that tells its files the call returns `Failed` only if no file is created.
pub record Gathers (text : Text) (result : Result (Unit {0}) ShelfFault) (before after : Text) (old new : State) : Type 0 where
  pub call : IsWriteCall result old new
  pub ok : OnOk result (HasGathered text before after old new)
  pub err : OnErr result (Told old new (OfSome Writes (before ++ text)))
  pub sure : IsTrue old.sure → IsTrue old.tells → IsErrOf result Failed → old.world.written ≡ None

-- A fault ended the writing of a result. There is a beginning of right lines, the last perhaps cut. If the shelf tells
-- its files, it is what was written. On a sure shelf that tells its files the fault is `Failed` only if no file is
-- created.
pub record BrokeOff (c : Circuit) (fault : ShelfFault) (old new : State) : Type 0 where
  pub call : IsWriteCall {T = Unit {0}} (Err fault) old new
  pub part : Text
  pub cut : IsCutFile c part
  pub written : Told old new (Writes part)
  pub sure : IsTrue old.sure → IsTrue old.tells → fault ≡ Failed → old.world.written ≡ None
