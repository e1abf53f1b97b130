-- What runs of `adapt` and `follow` leave if their work is done.
use Rattle.std.specs.Prelude.{◌≡◌, ◌≤◌, length, Option, Some}
use Rattle.std.specs.FinMap.{get}
use Rattle.diag_shelf.specs.World.{World}
use Rattle.diagnose.specs.Lines.{text_limit}
use Rattle.text_fields.specs.Fields.{Text}
use Rattle.request_words.specs.Request.{Request, adapt, follow}
use Rattle.run_steps.specs.AdaptivePlans.{IsAdaptivePlanFile}
use Rattle.dictionary_commands.specs.AdaptivePlans.{IsMadePlan}
use Rattle.run_steps.specs.Ending.{Ending, done}
use Rattle.run_steps.specs.Logs.{IsLogTo}
use Rattle.run_steps.specs.Outcome.{ConsoleGained}
use Rattle.dictionary_commands.specs.Texts.{outcome_text}
use Rattle.dia_runs.specs.Promises.{WasRead, HoldsTrueResult}

-- The result is valid and true. The file of the plan's name has the text of the plan for the classes of the result's
-- patterns, and the console gained the plan's counts. Unless the text is too long, `follow` accepts it as that plan.
pub record HasAdaptivePlan (bench result plan : Text) (old new : World) : Type 0 where
  pub read : HoldsTrueResult bench result old.files
  pub file : Text
  pub saved : get new.files plan ≡ Some file
  pub text : Text
  pub made : IsMadePlan read.design.circuit read.file file text
  pub accepted : length file ≤ text_limit → IsAdaptivePlanFile file made.made.plan
  pub printed : ConsoleGained text old new

-- If this is a run of `adapt` and its work is done, `HasAdaptivePlan` holds.
abbrev pub AdaptsPlan : Option Request → Ending → World → World → Type 0
AdaptsPlan request ending old new = (bench result plan : Text) → request ≡ Some (adapt bench result plan) → ending ≡ done → HasAdaptivePlan bench result plan old new

-- The plan and the log were accepted, and the console gained where the log leads in the plan.
pub record HasOutcome (plan log : Text) (old new : World) : Type 0 where
  pub adaptive : WasRead old.files plan IsAdaptivePlanFile
  pub outcome : WasRead old.files log (IsLogTo adaptive.thing)
  pub printed : ConsoleGained (outcome_text outcome.thing) old new

-- If this is a run of `follow` and its work is done, `HasOutcome` holds.
abbrev pub PrintsOutcome : Option Request → Ending → World → World → Type 0
PrintsOutcome request ending old new = (plan log : Text) → request ≡ Some (follow plan log) → ending ≡ done → HasOutcome plan log old new
