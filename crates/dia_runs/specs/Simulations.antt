-- What a run of `sim` leaves if its work is done.
use Rattle.std.specs.Prelude.{◌≡◌, Option, Some}
use Rattle.diag_shelf.specs.World.{World}
use Rattle.sim_listing.specs.SimText.{IsSimText}
use Rattle.text_fields.specs.Fields.{Text}
use Rattle.request_words.specs.Request.{Request, simulate}
use Rattle.run_steps.specs.Ending.{Ending, done}
use Rattle.run_steps.specs.Netlists.{IsDesign}
use Rattle.run_steps.specs.Logs.{IsListFor}
use Rattle.run_steps.specs.Outcome.{ConsoleGained}
use Rattle.dia_runs.specs.Promises.{WasRead}

-- The console gained what the netlist's circuit answers to the list's vectors, without a fault and with each fault that
-- makes a difference.
pub record HasSimulation (bench list : Text) (old new : World) : Type 0 where
  pub netlist : WasRead old.files bench IsDesign
  pub vectors : WasRead old.files list (IsListFor netlist.thing.circuit)
  pub text : Text
  pub simulated : IsSimText netlist.thing.circuit vectors.thing text
  pub printed : ConsoleGained text old new

-- If this is a run of `sim` and its work is done, `HasSimulation` holds.
abbrev pub PrintsSimulation : Option Request → Ending → World → World → Type 0
PrintsSimulation request ending old new = (bench list : Text) → request ≡ Some (simulate bench list) → ending ≡ done → HasSimulation bench list old new
