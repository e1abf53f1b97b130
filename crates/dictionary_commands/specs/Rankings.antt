-- What the command `rank` prints of a dictionary and a partial log.
use Rattle.std.specs.Prelude.{◌≡◌, ℕ, List}
use Rattle.dict_rows.specs.declared.dict.Dict.{Dict}
use Rattle.ranked_diag.specs.PartialLog.{Line}
use Rattle.ranked_diag.specs.Mismatches.{mismatch_counts}
use Rattle.ranked_diag.specs.Ranked.{least, IsRanking}
use Rattle.text_fields.specs.Fields.{Text}
use Rattle.dictionary_commands.specs.Texts.{ranks_text}

-- The text lists the numbers whose mismatches are at most `within` above the least, ranked, and says how many they are
-- and the least.
pub record IsRankText (d : Dict) (lines : List Line) (within : ℕ) (text : Text) : Type 0 where
  pub ranks : List (ℕ × ℕ)
  pub ranking : IsRanking (mismatch_counts d lines) within ranks
  pub text_is : text ≡ ranks_text ranks (least (mismatch_counts d lines))
