-- What follows from the record of a run that writes the log of a chip without a fault, or lists suspects, a cover or
-- bridges.
use Rattle.std.proofs.Common.{Option, ap}
use Rattle.diag_shelf.specs.World.{World}
use Rattle.result_file.specs.Laws.{ValidIsTrue}
use Rattle.request_words.specs.Request.{Request, expect, suspects, cover, bridges}
use Rattle.run_steps.specs.Ending.{Ending}
use Rattle.run_steps.specs.Outcome.{Outcome}
use Rattle.dia_runs.specs.Requests.{plan_of}
use Rattle.run_steps.specs.Ran.{IsDone}
use Rattle.dia_runs.specs.SuspectRuns.{WritesExpectedLog, PrintsSuspects, PrintsCover, PrintsBridges}
use Rattle.dia_runs.proofs.BridgeClauses.{BridgeLaws, lines_at, no_bridge, winners_explain}
use Rattle.dia_runs.proofs.Judged.{circuit_of}
use Rattle.dia_runs.proofs.Clauses.{done_for, accepted_by, true_result}
use Rattle.dia_runs.proofs.DictionaryClauses.{file_made, printed_text}

module _ {asked : Option Request} {ending : Ending} {old new : World} (called : IsDone (plan_of asked) ending old new) where
  pub expected_of : ValidIsTrue → WritesExpectedLog asked ending old new
  expected_of law bench result log is z =
      let d = done_for called (expect bench result log) is z in
      let w = accepted_by d.1 d.2 in
      let v = accepted_by w.then d.2 in
      let made = v.then.2 in
      record {
        read = true_result law w.read.held w.read.accepted v.read.held v.read.accepted made.of.spelled made.of.valid;
        file = v.then.0;
        saved = file_made d.0 (ap (λ (p : Outcome). p.made) v.then.3) d.3;
        text = v.then.1;
        made = made;
        printed = printed_text d.0 (ap (λ (p : Outcome). p.console) v.then.3) d.3;
      }

  pub suspected_of : ValidIsTrue → PrintsSuspects asked ending old new
  suspected_of law bench result log most is z =
      let d = done_for called (suspects bench result log most) is z in
      let w = accepted_by d.1 d.2 in
      let v = accepted_by w.then d.2 in
      let l = accepted_by v.then d.2 in
      let listed = l.then.1 in
      record {
        read = true_result law w.read.held w.read.accepted v.read.held v.read.accepted listed.of.spelled listed.of.valid;
        lines = l.read;
        text = l.then.0;
        listed = listed;
        printed = printed_text d.0 (ap (λ (p : Outcome). p.console) l.then.2) d.3;
      }

  pub covered_of : ValidIsTrue → PrintsCover asked ending old new
  covered_of law bench result log is z =
      let d = done_for called (cover bench result log) is z in
      let w = accepted_by d.1 d.2 in
      let v = accepted_by w.then d.2 in
      let l = accepted_by v.then d.2 in
      let covers = l.then.1 in
      record {
        read = true_result law w.read.held w.read.accepted v.read.held v.read.accepted covers.of.spelled covers.of.valid;
        lines = l.read;
        text = l.then.0;
        covers = covers;
        printed = printed_text d.0 (ap (λ (p : Outcome). p.console) l.then.2) d.3;
      }

  pub bridged_of : ValidIsTrue → BridgeLaws → PrintsBridges asked ending old new
  bridged_of law laws bench result log most within is z =
      let d = done_for called (bridges bench result log most within) is z in
      let w = accepted_by d.1 d.2 in
      let v = accepted_by w.then d.2 in
      let l = accepted_by v.then d.2 in
      let listed = l.then.1 in
      record {
        read = true_result law w.read.held w.read.accepted v.read.held v.read.accepted listed.of.spelled listed.of.valid;
        lines = l.read;
        text = l.then.0;
        listed = listed;
        nothing = no_bridge laws listed.are;
        winners = winners_explain laws (circuit_of w.read.accepted) listed.are.answers (lines_at laws l.read.accepted listed.of);
        printed = printed_text d.0 (ap (λ (p : Outcome). p.console) l.then.2) d.3;
      }
