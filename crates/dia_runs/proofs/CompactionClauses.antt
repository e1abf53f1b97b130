-- What follows from the record of a run that compacts a result.
use Rattle.std.proofs.Common.{Option, Some, ap, ◌∙◌}
use Rattle.diag_shelf.specs.World.{World}
use Rattle.result_file.specs.Laws.{ValidIsTrue}
use Rattle.compact_tests.specs.Laws.{ThinIsSound}
use Rattle.request_words.specs.Request.{Request, compact}
use Rattle.run_steps.specs.Ending.{Ending}
use Rattle.run_steps.specs.Outcome.{Outcome}
use Rattle.dia_runs.specs.Requests.{plan_of}
use Rattle.run_steps.specs.Ran.{IsDone}
use Rattle.dia_runs.specs.Compactions.{CompactsResult}
use Rattle.dia_runs.proofs.Judged.{circuit_of}
use Rattle.dia_runs.proofs.Clauses.{done_for, accepted_by, true_result}
use Rattle.dia_runs.proofs.DictionaryClauses.{file_made, printed_text}

module _ {asked : Option Request} {ending : Ending} {old new : World} (called : IsDone (plan_of asked) ending old new) where
  pub compacted_of : ValidIsTrue → ThinIsSound → CompactsResult asked ending old new
  compacted_of law sound bench result name is z =
      let d = done_for called (compact bench result name) is z in
      let w = accepted_by d.1 d.2 in
      let v = accepted_by w.then d.2 in
      let made = v.then.2 in
      let left = made.compacted in
      record {
        read = true_result law w.read.held w.read.accepted v.read.held v.read.accepted left.spelled left.valid;
        thin = made.thin;
        compacted = left;
        sound = sound w.read.thing.circuit left.records left.left (circuit_of w.read.accepted) left.valid left.are;
        saved = file_made d.0 (ap (λ (p : Outcome). p.made) v.then.3) d.3 ∙ ap Some made.file_is;
        printed = printed_text d.0 (ap (λ (p : Outcome). p.console) v.then.3 ∙ made.text_is) d.3;
      }
