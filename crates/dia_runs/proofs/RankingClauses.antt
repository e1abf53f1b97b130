-- What follows from the record of a run that ranks by a partial log.
use Rattle.std.proofs.Common.{◌≡◌, ◌++◌, ◌<◌, ◌^◌, ℕ, Bool, List, Option, ap, subst, ◌∙◌, arith}
use Rattle.diag_shelf.specs.World.{World}
use Rattle.dict_rows.specs.declared.dict.Dict.{Dict}
use Rattle.dict_rows.specs.Dictionary.{listed_numbers}
use Rattle.ranked_diag.specs.PartialLog.{Line}
use Rattle.ranked_diag.specs.Mismatches.{mismatch_counts}
use Rattle.ranked_diag.specs.Ranked.{ranked_with, IsRanking}
use Rattle.ranked_diag.specs.Laws.{LogIsPartial, OnePartialReading, WholeLogRanks, whole_lines}
use Rattle.text_fields.specs.Fields.{Text}
use Rattle.request_words.specs.Request.{Request, rank}
use Rattle.run_steps.specs.Dictionaries.{IsDictionaryFile}
use Rattle.run_steps.specs.Ending.{Ending}
use Rattle.run_steps.specs.Logs.{IsLogFor, IsPartialFor}
use Rattle.run_steps.specs.Outcome.{Outcome}
use Rattle.dia_runs.specs.Requests.{plan_of}
use Rattle.run_steps.specs.Ran.{IsDone}
use Rattle.dia_runs.specs.Rankings.{PrintsRanking}
use Rattle.dia_runs.proofs.Clauses.{done_for, accepted_by}

-- The laws by which a whole log is ranked as it is listed.
pub record RankingLaws : Type 0 where
  pub partial : LogIsPartial
  pub reading : OnePartialReading
  pub ranked : WholeLogRanks

ranked_as_listed : RankingLaws → {bytes log : Text} {d : Dict} {lines : List Line} {within : ℕ} {ranks : List (ℕ × ℕ)} → IsDictionaryFile bytes d → IsPartialFor d log lines → IsRanking (mismatch_counts d lines) within ranks → (observed : List (List Bool)) → IsLogFor d log observed
    → ranked_with 0 ranks ≡ listed_numbers d observed
ranked_as_listed laws {bytes} {log} {d} {lines} {within} {ranks} is read ranking observed whole =
    let few : d.patterns < 2 ^ 32 = omega (arith, is.1.has.patterns) in
    let same : lines ≡ whole_lines observed = laws.reading d.patterns d.positions log lines (whole_lines observed) few read (laws.partial d.patterns d.positions log observed whole) in
    laws.ranked d observed within ranks is.1.has.grouped is.1.has.shaped whole.rows (subst (λ (ls : List Line). IsRanking (mismatch_counts d ls) within ranks) same ranking)

module _ {asked : Option Request} {ending : Ending} {old new : World} (called : IsDone (plan_of asked) ending old new) where
  pub ranked_of : RankingLaws → PrintsRanking asked ending old new
  ranked_of laws dict log within is z =
      let d = done_for called (rank dict log within) is z in
      let w = accepted_by d.1 d.2 in
      let v = accepted_by w.then d.2 in
      let says = v.then in
      record {
        dictionary = w.read;
        lines = v.read;
        text = says.0;
        ranked = says.1;
        printed = d.3.console ∙ ap (λ (p : Outcome). old.console ++ p.console) says.2;
        as_listed = ranked_as_listed laws w.read.accepted v.read.accepted says.1.ranking;
      }
