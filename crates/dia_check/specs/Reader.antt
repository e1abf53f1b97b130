-- What was read of a file.
use Rattle.std.specs.Prelude.{◌≡◌, ◌<◌, ◌+◌, ◌++◌, length, Contains, None, Some, Result, Ok, Err, ⊤}
use Rattle.net_model.specs.Ascii.{line_feed}
use Rattle.net_model.specs.Circuit.{Circuit}
use Rattle.result_records.specs.declared.limits.TheConstants.{RESULT_LIMIT}
use Rattle.result_file.specs.declared.fault.ResultFault.{ResultFault}
use Rattle.text_fields.specs.Fields.{Text}
use Rattle.result_file.specs.Refusal.{FileRefused}
use Rattle.dia_check.specs.declared.stop.Stop.{Stop}
use Rattle.dia_check.specs.declared.stop.Stop.TheVariants as stop
use Rattle.dia_check.specs.declared.reader.Reader.{Reader}
use Rattle.dia_check.specs.Checker.{IsCheckOf, IsRefusedText}

-- Lines of these bytes were judged, and the remaining bytes are held.
pub record IsHeld (c : Circuit) (fed : Text) (r : Reader) : Type 0 where
  pub text : Text
  pub check : IsCheckOf c text r.checker
  pub fed_is : fed ≡ text ++ r.lines

-- Each line of these bytes was judged, and the held bytes have no LF. The room is what the limit still allows.
pub record HasJudgedLines (c : Circuit) (fed : Text) (r : Reader) : Type 0 where
  pub held : IsHeld c fed r
  pub one : ¬ Contains r.lines line_feed
  pub room : length fed + r.room ≡ RESULT_LIMIT

-- These bytes were read. Each line of them was judged, or the first line that breaks a rule is known.
pub record IsReading (c : Circuit) (fed : Text) (r : Reader) : Type 0 where
  pub going : r.refused ≡ None → HasJudgedLines c fed r
  pub refused : (fault : ResultFault) → r.refused ≡ Some fault → IsRefusedText c fed fault

-- Each line of some bytes was judged.
pub record HasOpen (c : Circuit) (r : Reader) : Type 0 where
  pub fed : Text
  pub is : HasJudgedLines c fed r

-- Some bytes were read.
pub record HasReading (c : Circuit) (r : Reader) : Type 0 where
  pub fed : Text
  pub is : IsReading c fed r

-- Each line of these bytes is judged: all are right, or the file is refused. If memory is missing, this says nothing.
abbrev pub IsTaken : Circuit → Text → Reader → Result (Unit {0}) Stop → Type 0
IsTaken c fed r (Ok x) = HasJudgedLines c fed r
IsTaken c fed r (Err (stop.Refused fault)) = IsRefusedText c fed fault
IsTaken c fed r (Err stop.NoMemory) = ⊤

-- A piece that comes after the bytes is judged.
pub record TakesPiece (c : Circuit) (old new : Reader) (piece : Text) (result : Result (Unit {0}) Stop) : Type 0 where
  pub taken : (fed : Text) → HasJudgedLines c fed old → IsTaken c (fed ++ piece) new result
  pub refused : new.refused ≡ old.refused

-- The text is refused as a whole file, and if it is longer than the limit each file that begins with it is refused.
pub record IsRefusedEnd (c : Circuit) (fed : Text) (fault : ResultFault) : Type 0 where
  pub whole : FileRefused c fed fault
  pub beyond : RESULT_LIMIT < length fed → IsRefusedText c fed fault
