-- What follows from the record of a run that prints a simulation.
use Rattle.std.proofs.Common.{◌++◌, Option, ap, ◌∙◌}
use Rattle.diag_shelf.specs.World.{World}
use Rattle.request_words.specs.Request.{Request, simulate}
use Rattle.run_steps.specs.Ending.{Ending}
use Rattle.run_steps.specs.Outcome.{Outcome}
use Rattle.dia_runs.specs.Requests.{plan_of}
use Rattle.run_steps.specs.Ran.{IsDone}
use Rattle.dia_runs.specs.Simulations.{PrintsSimulation}
use Rattle.dia_runs.proofs.Clauses.{done_for, accepted_by}

module _ {asked : Option Request} {ending : Ending} {old new : World} (called : IsDone (plan_of asked) ending old new) where
  pub simulated_of : PrintsSimulation asked ending old new
  simulated_of bench list is z =
      let d = done_for called (simulate bench list) is z in
      let w = accepted_by d.1 d.2 in
      let v = accepted_by w.then d.2 in
      let says = v.then in
      record {
        netlist = w.read;
        vectors = v.read;
        text = says.0;
        simulated = says.1;
        printed = d.3.console ∙ ap (λ (p : Outcome). old.console ++ p.console) says.2;
      }
