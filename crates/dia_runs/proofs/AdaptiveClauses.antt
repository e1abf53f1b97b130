-- What follows from the record of a run that makes or follows an adaptive plan.
use Rattle.std.proofs.Common.{◌≤◌, Option, length, sym, ap, subst, ◌∙◌}
use Rattle.diag_shelf.specs.World.{World}
use Rattle.result_file.specs.Laws.{ValidIsTrue}
use Rattle.diagnose.specs.Lines.{text_limit}
use Rattle.adaptive_tree.specs.WellFormed.{IsTextOf}
use Rattle.adaptive_tree.specs.Laws.{WrittenIsRead}
use Rattle.text_fields.specs.Fields.{Text}
use Rattle.request_words.specs.Request.{Request, adapt, follow}
use Rattle.run_steps.specs.Ending.{Ending}
use Rattle.run_steps.specs.Outcome.{Outcome}
use Rattle.dia_runs.specs.Requests.{plan_of}
use Rattle.run_steps.specs.Ran.{IsDone}
use Rattle.dia_runs.specs.AdaptiveRuns.{AdaptsPlan, PrintsOutcome}
use Rattle.dia_runs.proofs.Clauses.{done_for, accepted_by, true_result}
use Rattle.dia_runs.proofs.DictionaryClauses.{file_made, printed_text}

module _ {asked : Option Request} {ending : Ending} {old new : World} (called : IsDone (plan_of asked) ending old new) where
  pub adapted_of : ValidIsTrue → WrittenIsRead → AdaptsPlan asked ending old new
  adapted_of law written bench result plan is z =
      let d = done_for called (adapt bench result plan) is z in
      let w = accepted_by d.1 d.2 in
      let v = accepted_by w.then d.2 in
      let made = v.then.2 in
      record {
        read = true_result law w.read.held w.read.accepted v.read.held v.read.accepted made.spelled made.valid;
        file = v.then.0;
        saved = file_made d.0 (ap (λ (p : Outcome). p.made) v.then.3) d.3;
        text = v.then.1;
        made = made;
        accepted = λ short. subst (IsTextOf made.made.plan) (sym made.made.file_is) (written made.made.plan made.made.planned.well_formed (subst (λ (t : Text). length t ≤ text_limit) made.made.file_is short));
        printed = printed_text d.0 (ap (λ (p : Outcome). p.console) v.then.3) d.3;
      }

  pub followed_of : PrintsOutcome asked ending old new
  followed_of plan log is z =
      let d = done_for called (follow plan log) is z in
      let w = accepted_by d.1 d.2 in
      let v = accepted_by w.then d.2 in
      record {
        adaptive = w.read;
        outcome = v.read;
        printed = printed_text d.0 (ap (λ (p : Outcome). p.console) v.then.2 ∙ v.then.1) d.3;
      }
