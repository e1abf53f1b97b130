-- All that is promised of a run, from what its words ask for and how it ends.
use Rattle.std.specs.Prelude.{◌≡◌, ◌⊎◌, Option, None, IsTrue}
use Rattle.diag_shelf.specs.World.{State}
use Rattle.diag_shelf.specs.Calls.{Told}
use Rattle.request_words.specs.Request.{Request}
use Rattle.run_steps.specs.Ending.{Ending, not_understood}
use Rattle.dia_runs.specs.Requests.{outputs_of, plan_of, endings_of}
use Rattle.run_steps.specs.Plan.{AreHeld}
use Rattle.run_steps.specs.Ran.{IsAmong, IsBroken, Stays, HasCauses, IsDone, IsReadOut, IsUnread, IsBrokenOff, OnlyOutputs, NoneFailed}
use Rattle.dia_runs.specs.Promises.{KeepsUnlessDone, GeneratesResult, ChecksResult, Synthesizes, PrintsFaults, DecidedByFiles, KeepsRefused, IsComplete}
use Rattle.dia_runs.specs.DictionaryRuns.{MakesDictionary, ConvertsDictionary, PrintsDiagnosis}
use Rattle.dia_runs.specs.TopUpRuns.{TopsUpResult}
use Rattle.dia_runs.specs.Simulations.{PrintsSimulation}
use Rattle.dia_runs.specs.Compactions.{CompactsResult}
use Rattle.dia_runs.specs.Rankings.{PrintsRanking}
use Rattle.dia_runs.specs.AdaptiveRuns.{AdaptsPlan, PrintsOutcome}
use Rattle.dia_runs.specs.SuspectRuns.{WritesExpectedLog, PrintsSuspects, PrintsCover, PrintsBridges}
use Rattle.dia_runs.specs.AppliedRuns.{WritesExpectedAt, PrintsSuspectsAt, PrintsCoverAt, PrintsBridgesAt}

-- All that is promised of a run: what `gen` and `check` leave, what the other commands leave, the ending and its
-- causes, what is done to a shelf that tells its world, refusals and their absence, and what a sure shelf gives.
pub record IsRunOf (asked : Option Request) (ending : Ending) (old new : State) : Type 0 where
  -- ---- what `gen` and `check` leave if their work is done

  -- In the file that `gen` wrote, faults of different classes answer differently at the pattern that the class table
  -- names for them; a member marked equal answers as the lowest of its class on every vector; a member marked open
  -- carries its full budgets of closed cubes and fresh learned clauses, and no member is open with as many cubes as
  -- there are vectors. The file is one that may be made with the words' budgets, and the console gained its counts.
  pub made : Told old new (GeneratesResult asked ending)
  -- `check` accepts a file only if it is valid and true: different classes, members marked equal and members marked open
  -- are as said above. It needn't be a file that the generator may write. The console gained the file's counts.
  pub checked : Told old new (ChecksResult asked ending)
  -- ---- what the other commands leave if their work is done

  -- `grade` and `topup` leave a result whose first patterns are the vectors of the list that split a class of those
  -- kept before. Numbers of one class answer alike to the whole list; without budgets the classes are exactly those of
  -- the list.
  pub topped_up : Told old new (TopsUpResult asked ending)
  -- `synth` leaves the netlist of its number, if the result has another name, and a result of its circuit like that of
  -- `gen`.
  pub synth : Told old new (Synthesizes asked ending)
  -- `dict` accepts a result as `check` does, and leaves the dictionary of its patterns in version 2.
  pub dictionary : Told old new (MakesDictionary asked ending)
  -- `convert` leaves version 2 of the dictionary that it read.
  pub converted : Told old new (ConvertsDictionary asked ending)
  -- `diagnose` prints the numbers whose entry is that of the log's answers, and their count.
  pub diagnosed : Told old new (PrintsDiagnosis asked ending)
  -- `rank` prints the numbers whose mismatches are at most the given number above the least; with a whole log those
  -- that have none are those of `diagnose`.
  pub ranked : Told old new (PrintsRanking asked ending)
  -- `faults` prints all faults of the circuit with their roots.
  pub faults : Told old new (PrintsFaults asked ending)
  -- `sim` prints what the circuit answers to each vector of the list.
  pub simulated : Told old new (PrintsSimulation asked ending)
  -- `compact` accepts a result as `check` does, and leaves it without the patterns that its classes don't need.
  pub compacted : Told old new (CompactsResult asked ending)
  -- `adapt` accepts a result as `check` does, and leaves the plan for the classes of its patterns, which leads each
  -- fault's own answers to its class; no way has more asks than there are patterns, and there are fewer asks than
  -- classes.
  pub adapted : Told old new (AdaptsPlan asked ending)
  -- `follow` prints where the log's answers lead in the plan: to a class, to the pattern to ask next, or nowhere.
  pub followed : Told old new (PrintsOutcome asked ending)
  -- `expect` accepts a result as `check` does, and leaves the log that a chip without a fault gives to its patterns.
  -- The log is read back within the limit of bytes, and with it nothing is listed.
  pub expected : Told old new (WritesExpectedLog asked ending)
  -- `suspects` prints exactly the classes whose faults hit a failing bit of the log, best first, at most the given
  -- number of them. With the whole log of one fault its class comes first, if the fault answers some pattern otherwise
  -- than the circuit without a fault.
  pub suspected : Told old new (PrintsSuspects asked ending)
  -- `cover` prints classes one after another, each of which explains most of the failing patterns that are left, until
  -- no class explains any.
  pub covered : Told old new (PrintsCover asked ending)
  -- `bridges` prints exactly the bridges without a loop that explain some failing pattern of the log, and all except at
  -- most the given number, best first, at most the given number of bridges, how many there are and how many are exact.
  -- With the whole log of the own answers of a bridge without a loop that bridge is found and exact, if some pattern
  -- fails. If no pattern fails, nothing is listed. A dominant bridge without a loop whose first line shows one bit at
  -- every logged pattern explains what the stem of the second line does, stuck at this bit.
  pub bridged : Told old new (PrintsBridges asked ending)
  -- With a list of vectors that were applied the log has their numbers. `expect` leaves the log that a chip without a
  -- fault gives to them.
  pub expected_at : Told old new (WritesExpectedAt asked ending)
  -- `suspects` and `cover` go by the classes that the result's patterns and these vectors make together, so that the
  -- faults of one class answer alike to all of them, and a fault that the result marks equal stays with the lowest of
  -- its class.
  pub suspected_at : Told old new (PrintsSuspectsAt asked ending)
  pub covered_at : Told old new (PrintsCoverAt asked ending)
  -- `bridges` goes by the vectors alone, and promises the same as without a list.
  pub bridged_at : Told old new (PrintsBridgesAt asked ending)
  -- ---- the ending, and its causes

  -- The ending is one of those that these words can have.
  pub ends : IsAmong ending (endings_of asked)
  -- The ending is that the words aren't understood only if they ask for nothing.
  pub words : ending ≡ not_understood → asked ≡ None
  -- If the words ask for nothing, the ending is that they aren't understood, unless that can't be printed or memory is
  -- missing.
  pub not_asked : asked ≡ None → (ending ≡ not_understood) ⊎ IsBroken ending
  -- If the ending is that a read or a write failed, the count of these faults rose. If a count is greater, the ending
  -- is that such a call failed or that memory was missing.
  pub causes : HasCauses ending old new
  -- No count falls, and whether the shelf tells its world and whether it is sure stay as they are.
  pub stays : Stays old new
  -- ---- what is done to a shelf that tells

  -- Unless something failed, the words and files called for all that was done.
  pub done : Told old new (IsDone (plan_of asked) ending)
  -- Unless something failed, the file that was read last was read to its end, or to one byte past the limit of its
  -- kind.
  pub read : Told old new (IsReadOut (plan_of asked) ending)
  -- If a read failed, whatever the ending, no file was created or changed, and nothing was printed.
  pub unread : IsUnread ending old new
  -- If a write failed or memory was missing, nothing was done, or a part of what words and files call for.
  pub broken_off : Told old new (IsBrokenOff (plan_of asked) ending)
  -- Files that the words don't name as outputs are as before.
  pub others : Told old new (OnlyOutputs (outputs_of asked))
  -- If the words aren't understood, a file is refused or a read failed, no file was created or changed.
  pub kept : Told old new (KeepsUnlessDone ending)
  -- ---- refusals, and their absence

  -- A refusal comes exactly for a file that is refused, and the console gained its text.
  pub files : Told old new (DecidedByFiles asked ending)
  -- If the words aren't understood or a file that is read is refused, no file is created or changed, whatever the
  -- ending.
  pub refused : Told old new (KeepsRefused asked)
  -- If the words ask for something, each file that is read is accepted and no count rose, the work is done or memory
  -- was missing.
  pub complete : IsComplete asked ending old new
  -- ---- a sure shelf

  -- A sure shelf that holds each file that is read, up to the first that is refused, has no fault.
  pub sure : IsTrue old.sure → AreHeld old.world.files (plan_of asked) → NoneFailed old new
