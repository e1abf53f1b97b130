-- What the steps of a run do: a file is read, and accepted or refused.
use Rattle.std.specs.Prelude.{◌≡◌, ℕ, Option, Some, None, Result, Ok, Err, IsTrue}
use Rattle.std.specs.Option.{option_map}
use Rattle.std.specs.Borrow.{Bor}
use Rattle.std.specs.FinMap.{get}
use Rattle.diag_shelf.specs.World.{World, State}
use Rattle.diag_shelf.specs.Calls.{Rose, SameFacts, OnlyReads, Told, read_of}
use Rattle.bench_reader.specs.declared.fault.NetFault.{NetFault}
use Rattle.bench_reader.specs.declared.fault.NetFault.TheVariants as fault
use Rattle.dict_file.specs.declared.fault.DictFault.{DictFault}
use Rattle.diagnose.specs.declared.fault.LogFault.{LogFault}
use Rattle.diagnose.specs.declared.fault.LogFault.TheVariants as log
use Rattle.adaptive_tree.specs.declared.fault.PlanFault.{PlanFault}
use Rattle.adaptive_tree.specs.declared.fault.PlanFault.TheVariants as plan
use Rattle.text_fields.specs.Fields.{Text}
use Rattle.run_steps.specs.Texts.{refusal_text, loop_text, dictionary_rule, dictionary_text, log_text, vectors_text, plan_fault_text}
use Rattle.run_steps.specs.declared.logs.ListFault.{ListFault}
use Rattle.run_steps.specs.declared.ending.FileKind.{FileKind}
use Rattle.run_steps.specs.declared.ending.RunFault.{RunFault}
use Rattle.run_steps.specs.declared.ending.RunFault.TheVariants.{ReadFailed, NoMemory}
use Rattle.run_steps.specs.Ending.{refused}
use Rattle.run_steps.specs.Limits.{limit_of, left_of}
use Rattle.run_steps.specs.Outcome.{said, IsPartOf}
use Rattle.run_steps.specs.Ran.{Stays, Ends}

-- The text of a netlist's fault, if the fault is a refusal.
abbrev pub fault_text : NetFault → Option Text
fault_text (fault.At kind place) = Some (refusal_text kind place)
fault_text (fault.Loop place names) = Some (loop_text place names)
fault_text fault.NoMemory = None

-- The text of a dictionary's fault, if the fault is a refusal.
abbrev pub dictionary_fault_text : DictFault → Option Text
dictionary_fault_text fault = option_map (λ place. dictionary_text place.0 place.1) (dictionary_rule fault)

-- The text of a fault of a log or a list of vectors, if the fault is a refusal.
abbrev pub log_fault_text : LogFault → Option Text
log_fault_text (log.At kind line) = Some (log_text kind line)
log_fault_text log.NoMemory = None

-- The text of a fault of a list of vectors in a command that may read a log too, if the fault is a refusal.
abbrev pub list_fault_text : LogFault → Option Text
list_fault_text (log.At kind line) = Some (vectors_text kind line)
list_fault_text log.NoMemory = None

abbrev pub vectors_fault_text : ListFault → Option Text
vectors_fault_text fault = list_fault_text fault.fault

-- The text of an adaptive plan's fault, if the fault is a refusal.
abbrev pub adaptive_fault_text : PlanFault → Option Text
adaptive_fault_text (plan.At kind line) = Some (plan_fault_text kind line)
adaptive_fault_text plan.NoMemory = None

-- Nothing was done but to read, and no write failed.
pub record HasOnlyRead (old new : State) : Type 0 where
  pub stays : Stays old new
  pub writes : new.write_faults ≡ old.write_faults
  pub only : Told old new OnlyReads

-- What is left of the opened file is what the file of this name has after one byte past the limit of its kind.
abbrev pub IsLeftBehind : FileKind → Text → World → World → Type 0
IsLeftBehind kind name old new = new.rest ≡ left_of kind old.files name

-- The file of this name was read, and nothing else was done: `bytes` are all of its bytes, or if it has more than the
-- limit of its kind, as many as the limit and one more.
pub record HasReadBytes (name : Text) (kind : FileKind) (bytes : Text) (old new : State) : Type 0 where
  pub facts : SameFacts old new
  pub only : Told old new OnlyReads
  pub held : IsTrue old.tells → (all : Text) × (get old.world.files name ≡ Some all) × (bytes ≡ read_of (limit_of kind) all)
  pub left : Told old new (IsLeftBehind kind name)

-- The file of this name couldn't be read, for this reason: a read failed, on a sure shelf only if no file has the name,
-- or memory was missing. Nothing was done but to read.
pub data CouldNotRead (name : Text) (why : RunFault) (old new : State) : Type 0 where
  by_failure : why ≡ ReadFailed → Rose old.read_faults new.read_faults → HasOnlyRead old new → (IsTrue old.sure → get old.world.files name ≡ None) → CouldNotRead name why old new
  by_memory : why ≡ NoMemory → HasOnlyRead old new → (IsTrue old.sure → new.read_faults ≡ old.read_faults) → CouldNotRead name why old new

-- The file of this name was read and accepted as `x`, and nothing else was done.
pub record WasAccepted {X : Type 0} (name : Text) (kind : FileKind) (Accepted : Text → X → Type 0) (x : X) (old new : State) : Type 0 where
  pub facts : SameFacts old new
  pub only : Told old new OnlyReads
  pub held : IsTrue old.tells → (bytes : Text) × (get old.world.files name ≡ Some bytes) × Accepted bytes x
  pub left : Told old new (IsLeftBehind kind name)

-- The file of this name was read and refused with this text, and nothing else was done.
pub record WasRefused (name : Text) (kind : FileKind) (Refused : Text → Text → Type 0) (console : Text) (old new : State) : Type 0 where
  pub facts : SameFacts old new
  pub only : Told old new OnlyReads
  pub held : IsTrue old.tells → (bytes : Text) × (get old.world.files name ≡ Some bytes) × Refused bytes console
  pub left : Told old new (IsLeftBehind kind name)

-- The run ended at the file of this name, for the reason `why`: the file was refused, and the console says so, in part
-- if a write failed or memory was missing; or the file couldn't be read.
pub data IsOver (name : Text) (kind : FileKind) (Refused : Text → Text → Type 0) (why : RunFault) (old new : State) : Type 0 where
  by_refusal : (console : Text) (middle : State) → WasRefused name kind Refused console old middle → Ends (said (refused kind) console) (IsPartOf (said (refused kind) console)) (Err why) middle new → IsOver name kind Refused why old new
  by_reading : CouldNotRead name why old new → IsOver name kind Refused why old new

-- ---- files that are judged by their bytes

-- A judge whose results are those of `Answers` accepts some bytes as `x`.
pub record AcceptsSome {X E : Type 0} (Answers : Bor Text → Result X E → Type 0) (x : X) : Type 0 where
  pub bytes : Bor Text
  pub answered : Answers bytes (Ok x)

-- A judge whose results are those of `Answers` accepts the file `all` as `x`; it is given at most one byte beyond
-- `limit`.
pub record AcceptsFile {X E : Type 0} (Answers : Bor Text → Result X E → Type 0) (limit : ℕ) (all : Text) (x : X) : Type 0 where
  pub bytes : Bor Text
  pub read : bytes.now ≡ read_of limit all
  pub answered : Answers bytes (Ok x)

-- A judge whose results are those of `Answers` refuses the file `all`, by a fault whose text is `console`; it is given
-- at most one byte beyond `limit`.
pub record RefusesFile {X E : Type 0} (Answers : Bor Text → Result X E → Type 0) (said_of : E → Option Text) (limit : ℕ) (all console : Text) : Type 0 where
  pub bytes : Bor Text
  pub read : bytes.now ≡ read_of limit all
  pub fault : E
  pub answered : Answers bytes (Err fault)
  pub console_is : said_of fault ≡ Some console

-- The console says why a file is refused, in part if a write failed or memory was missing; or memory was missing, and
-- nothing was done.
pub data IsSaid (console : Option Text) (kind : FileKind) (why : RunFault) (old new : State) : Type 0 where
  by_text : (text : Text) → console ≡ Some text → Ends (said (refused kind) text) (IsPartOf (said (refused kind) text)) (Err why) old new → IsSaid console kind why old new
  by_want : why ≡ NoMemory → new ≡ old → IsSaid console kind why old new
