-- What a run of `rank` leaves if its work is done.
use Rattle.std.specs.Prelude.{◌≡◌, ℕ, Bool, List, Option, Some}
use Rattle.diag_shelf.specs.World.{World}
use Rattle.dict_rows.specs.Dictionary.{listed_numbers}
use Rattle.ranked_diag.specs.Ranked.{ranked_with}
use Rattle.text_fields.specs.Fields.{Text}
use Rattle.request_words.specs.Request.{Request, rank}
use Rattle.run_steps.specs.Ending.{Ending, done}
use Rattle.run_steps.specs.Dictionaries.{IsDictionaryFile}
use Rattle.run_steps.specs.Logs.{IsLogFor, IsPartialFor}
use Rattle.run_steps.specs.Outcome.{ConsoleGained}
use Rattle.dictionary_commands.specs.Rankings.{IsRankText}
use Rattle.dia_runs.specs.Promises.{WasRead}

-- The console gained the numbers whose mismatches with the partial log are at most `within` above the least, ranked,
-- how many they are, and the least. If the log is whole and all in it was observed, the numbers that are ranked with no
-- mismatch are those that `diagnose` lists.
pub record HasRanking (dict log : Text) (within : ℕ) (old new : World) : Type 0 where
  pub dictionary : WasRead old.files dict IsDictionaryFile
  pub lines : WasRead old.files log (IsPartialFor dictionary.thing)
  pub text : Text
  pub ranked : IsRankText dictionary.thing lines.thing within text
  pub printed : ConsoleGained text old new
  pub as_listed : (observed : List (List Bool)) → IsLogFor dictionary.thing lines.bytes observed → ranked_with 0 ranked.ranks ≡ listed_numbers dictionary.thing observed

-- If this is a run of `rank` and its work is done, `HasRanking` holds.
abbrev pub PrintsRanking : Option Request → Ending → World → World → Type 0
PrintsRanking request ending old new = (dict log : Text) (within : ℕ) → request ≡ Some (rank dict log within) → ending ≡ done → HasRanking dict log within old new
