-- What follows from the record of a run that makes a result from a list of vectors.
use Rattle.std.proofs.Common.{ℕ, ◌++◌, Option, length, ap, ◌∙◌}
use Rattle.diag_shelf.specs.World.{World}
use Rattle.dia_gen.specs.Laws.{ListIsGraded}
use Rattle.dia_gen.proofs.Written.{made_closed}
use Rattle.text_fields.specs.Fields.{Text}
use Rattle.request_words.specs.Request.{Request, top_up}
use Rattle.run_steps.specs.Ending.{Ending}
use Rattle.run_steps.specs.Ran.{IsDone}
use Rattle.result_commands.specs.Texts.{kept_text}
use Rattle.dia_runs.specs.Requests.{plan_of}
use Rattle.dia_runs.specs.TopUpRuns.{TopsUpResult}
use Rattle.dia_runs.proofs.Judged.{EvidenceLaws, sound_design, circuit_of}
use Rattle.dia_runs.proofs.Clauses.{done_for, accepted_by, held_by, printed_by}

module _ {asked : Option Request} {ending : Ending} {old new : World} (called : IsDone (plan_of asked) ending old new) where
  pub topped_up_of : EvidenceLaws → ListIsGraded → TopsUpResult asked ending old new
  topped_up_of laws graded bench vectors result budgets is z =
      let d = done_for called (top_up bench vectors result budgets) is z in
      let w = accepted_by d.1 d.2 in
      let v = accepted_by w.then d.2 in
      let does = v.then in
      let topped = does.made.topped in
      let made = does.made.is.made in
      let listed = length v.read.thing in
      record {
        netlist = w.read;
        list = v.read;
        file = does.file;
        saved = held_by does d.3;
        summary = topped.summary;
        made = made;
        graded = graded w.read.thing.circuit v.read.thing budgets topped.summary does.file made (circuit_of w.read.accepted);
        closed = made_closed (sound_design laws w.read.accepted) made;
        printed = printed_by does d.3 ∙ ap (λ (t : Text). old.console ++ t) (does.made.text_is ∙ ap (λ (n : ℕ). kept_text topped.summary n listed) does.made.is.kept);
      }
