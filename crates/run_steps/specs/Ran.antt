-- How a run may end, and what it did.
use Rattle.std.specs.Prelude.{◌≡◌, ◌≤◌, ◌<◌, ◌⊎◌, List, [], ◌∷◌, IsTrue}
use Rattle.std.specs.FinMap.{get}
use Rattle.diag_shelf.specs.World.{World, State}
use Rattle.diag_shelf.specs.Calls.{Rose, Told}
use Rattle.text_fields.specs.Fields.{Text}
use Rattle.run_steps.specs.declared.ending.FileKind.TheVariants as kind
use Rattle.run_steps.specs.Ending.{Ending, done, refused, read_failed, write_failed, no_memory, IsDecided}
use Rattle.run_steps.specs.Outcome.{Outcome, Leaves, IsUntouched}
use Rattle.run_steps.specs.Plan.{Plan, CallsFor, MayLeave, AreHeld, LeavesRest}

-- The element is one of the list.
abbrev pub IsAmong : {A : Type 0} → A → List A → Type 0
IsAmong x [] = ⊥
IsAmong x (y ∷ ys) = (x ≡ y) ⊎ IsAmong x ys

-- The endings of a run that breaks off: a write failed, or memory was missing.
abbrev pub broken_endings : List Ending
broken_endings = write_failed ∷ no_memory ∷ []

-- The endings of a run that reads files and is kept from its work: a read or a write failed, or memory was missing.
abbrev pub read_endings : List Ending
read_endings = read_failed ∷ broken_endings

-- The endings of a run that reads no file: the work is done, or the run breaks off.
abbrev pub written_endings : List Ending
written_endings = done ∷ broken_endings

-- The endings of a run that reads a netlist.
abbrev pub netlist_endings : List Ending
netlist_endings = done ∷ refused kind.Netlist ∷ read_endings

-- The endings of a run that reads a netlist and a list of vectors.
abbrev pub list_endings : List Ending
list_endings = done ∷ refused kind.Netlist ∷ refused kind.Log ∷ read_endings

-- The endings of a run that reads a netlist and a result.
abbrev pub result_endings : List Ending
result_endings = done ∷ refused kind.Netlist ∷ refused kind.Result ∷ read_endings

-- The endings of a run that reads a netlist, a result, and a log or a list of vectors.
abbrev pub result_log_endings : List Ending
result_log_endings = done ∷ refused kind.Netlist ∷ refused kind.Result ∷ refused kind.Log ∷ read_endings

-- The endings of a run that reads a dictionary.
abbrev pub dictionary_endings : List Ending
dictionary_endings = done ∷ refused kind.Dictionary ∷ read_endings

-- The endings of a run that reads a dictionary and a log for it.
abbrev pub dictionary_log_endings : List Ending
dictionary_log_endings = done ∷ refused kind.Dictionary ∷ refused kind.Log ∷ read_endings

-- The endings of a run that reads an adaptive plan and a log of answers to it.
abbrev pub walk_endings : List Ending
walk_endings = done ∷ refused kind.AdaptivePlan ∷ refused kind.Log ∷ read_endings

-- No count falls, and whether the shelf tells its world and whether it is sure stay as they are.
pub record Stays (old new : State) : Type 0 where
  pub tells : new.tells ≡ old.tells
  pub sure : new.sure ≡ old.sure
  pub reads : old.read_faults ≤ new.read_faults
  pub writes : old.write_faults ≤ new.write_faults

-- The ending is that a read or a write failed only if the count of these faults rose. If the count of read faults is
-- greater, a read failed or memory was missing; if that of write faults is, a write failed or memory was missing.
pub record HasCauses (ending : Ending) (old new : State) : Type 0 where
  pub read_fault : ending ≡ read_failed → Rose old.read_faults new.read_faults
  pub write_fault : ending ≡ write_failed → Rose old.write_faults new.write_faults
  pub reads_failed : old.read_faults < new.read_faults → (ending ≡ read_failed) ⊎ (ending ≡ no_memory)
  pub writes_failed : old.write_faults < new.write_faults → (ending ≡ write_failed) ⊎ (ending ≡ no_memory)

-- If the words and files decide the ending, they called for an outcome with this ending, and just that was done.
abbrev pub IsDone : Plan → Ending → World → World → Type 0
IsDone plan ending old new = IsDecided ending → (o : Outcome) × CallsFor old.files plan o × (o.ending ≡ ending) × Leaves o.made o.console old new

-- If the words and files decide the ending, the file that was read last was read to its end, or to one byte past the
-- limit of its kind; if none was read, what was left of an opened file stays.
abbrev pub IsReadOut : Plan → Ending → World → World → Type 0
IsReadOut plan ending old new = IsDecided ending → LeavesRest old.files plan old.rest new.rest

-- If a read failed, whatever the ending, no file was created or changed, and nothing was printed.
abbrev pub IsUnread : Ending → State → State → Type 0
IsUnread ending old new = (ending ≡ read_failed) ⊎ (old.read_faults < new.read_faults) → Told old new IsUntouched

-- The ending is that a write failed or memory was missing.
abbrev pub IsBroken : Ending → Type 0
IsBroken ending = (ending ≡ write_failed) ⊎ (ending ≡ no_memory)

-- If the run broke off, nothing was done, or what the plan may leave with these files.
abbrev pub IsBrokenOff : Plan → Ending → World → World → Type 0
IsBrokenOff plan ending old new = IsBroken ending →
    IsUntouched old new ⊎ ((made : List (Text × Text)) × (text : Text) × MayLeave old.files plan made text × Leaves made text old new)

-- Files that aren't named as outputs are as before.
abbrev pub OnlyOutputs : List Text → World → World → Type 0
OnlyOutputs outputs old new = (name : Text) → ¬ IsAmong name outputs → get new.files name ≡ get old.files name

-- Both counts of faults are as before.
pub record NoneFailed (old new : State) : Type 0 where
  pub reads : new.read_faults ≡ old.read_faults
  pub writes : new.write_faults ≡ old.write_faults

-- The outcome was carried out with its ending; or the ending is that a write failed or memory was missing, and a part
-- of the outcome for which `Part` holds was carried out. The ending is that a write failed only if the count of write
-- faults rose, and if that is greater, the ending is one of these two; on a sure shelf it stays. The count of read
-- faults and what is left of an opened file stay.
pub record Ends (o : Outcome) (Part : List (Text × Text) → Text → Type 0) (ending : Ending) (old new : State) : Type 0 where
  pub stays : Stays old new
  pub reads : new.read_faults ≡ old.read_faults
  pub answered : (ending ≡ o.ending) ⊎ IsBroken ending
  pub write_fault : ending ≡ write_failed → Rose old.write_faults new.write_faults
  pub writes_failed : old.write_faults < new.write_faults → IsBroken ending
  pub whole : ending ≡ o.ending → Told old new (Leaves o.made o.console)
  pub part : Told old new (λ u v. (made : List (Text × Text)) × (text : Text) × Part made text × Leaves made text u v)
  pub sure : IsTrue old.sure → new.write_faults ≡ old.write_faults
  pub rest : Told old new (λ u v. v.rest ≡ u.rest)

-- All that is promised of a run with this plan: its ending is one of `endings` and has its causes, and no count falls;
-- if the words and files decide the ending, what was done and what is left to read are as the plan has it; if a read
-- failed nothing was done; if the run broke off, nothing was done or what the plan may leave; only files named in
-- `outputs` changed; and on a sure shelf that holds each file that the plan reads, up to the first that is refused, no
-- count rises.
pub record Follows (plan : Plan) (endings : List Ending) (outputs : List Text) (ending : Ending) (old new : State) : Type 0 where
  pub ends : IsAmong ending endings
  pub stays : Stays old new
  pub causes : HasCauses ending old new
  pub done : Told old new (IsDone plan ending)
  pub rest : Told old new (IsReadOut plan ending)
  pub unread : IsUnread ending old new
  pub broken_off : Told old new (IsBrokenOff plan ending)
  pub others : Told old new (OnlyOutputs outputs)
  pub sure : IsTrue old.sure → AreHeld old.world.files plan → NoneFailed old new
