-- How the rest of a file is read.
use Rattle.std.specs.Prelude.{◌≡◌, ◌⊎◌, ◌≤◌, ◌+◌, ℕ, [], ◌++◌, length, IsSome}
use Rattle.diag_shelf.specs.World.{World, State}
use Rattle.diag_shelf.specs.Calls.{Told}
use Rattle.net_model.specs.Circuit.{Circuit}
use Rattle.text_fields.specs.Fields.{Text}
use Rattle.result_records.specs.declared.limits.TheConstants.{RESULT_LIMIT}
use Rattle.dia_check.specs.declared.reader.Reader.{Reader}
use Rattle.dia_check.specs.Left.{rest_of}
use Rattle.dia_check.specs.Reader.{IsReading}

-- These bytes were taken from the rest of the opened file.
pub record TakesText (fed : Text) (old new : World) : Type 0 where
  pub opened : IsSome new.rest
  pub rest : rest_of old ≡ fed ++ rest_of new

-- The rest was taken to its end, or to one byte beyond the limit.
pub record TakesAll (fed : Text) (old new : World) : Type 0 where
  pub taken : TakesText fed old new
  pub end : (length fed ≡ RESULT_LIMIT + 1) ⊎ (rest_of new ≡ [])

-- The reader has read the rest of the opened file, to its end or to one byte beyond the limit.
pub record HasRead (c : Circuit) (reader : Reader) (old new : State) : Type 0 where
  pub fed : Text
  pub reading : IsReading c fed reader
  pub few : length fed ≤ RESULT_LIMIT + 1
  pub all : Told old new (TakesAll fed)

-- The reader has read `taken` bytes.
pub record IsReadSoFar (c : Circuit) (taken : ℕ) (reader : Reader) (old new : State) : Type 0 where
  pub fed : Text
  pub reading : IsReading c fed reader
  pub taken_is : length fed ≡ taken
  pub told : Told old new (TakesText fed)
