-- Plans of runs: which files a run reads, in order, and what these call for.
use Rattle.std.specs.Prelude.{◌≡◌, ◌⊎◌, List, Some, IsSome, ⊤, Option}
use Rattle.std.specs.FinMap.{get}
use Rattle.diag_shelf.specs.World.{Files}
use Rattle.text_fields.specs.Fields.{Text}
use Rattle.run_steps.specs.Limits.{left_of}
use Rattle.run_steps.specs.declared.ending.FileKind.{FileKind}
use Rattle.run_steps.specs.Ending.{done, refused}
use Rattle.run_steps.specs.Outcome.{Outcome, said, IsPartOf}

-- What a run is to do: it reads files in order, judges each before it reads the next, and comes to an outcome.
pub data Plan : Type 1 where
  -- The run reads nothing more, and an outcome of `Done` comes about. If the run breaks off, a part of such an outcome
  -- may be left, or files and a text of `Cut`.
  finish : (Done : Outcome → Type 0) (Cut : List (Text × Text) → Text → Type 0) → Plan
  -- The run reads the file of this name. The file is refused as one of this kind, and the console gains the text of the
  -- refusal; or it is accepted as some `x`, and the plan goes on with `next x`.
  judged : (name : Text) (kind : FileKind) (X : Type 0) (Refused : Text → Text → Type 0) (Accepted : Text → X → Type 0) (next : X → Plan) → Plan

-- No file is both refused and accepted, accepted as two things, or refused with two texts.
pub record IsClearFile (X : Type 0) (Refused : Text → Text → Type 0) (Accepted : Text → X → Type 0) : Type 0 where
  pub apart : (bytes console : Text) (x : X) → Accepted bytes x → Refused bytes console → ⊥
  pub once : (bytes : Text) (x y : X) → Accepted bytes x → Accepted bytes y → x ≡ y
  pub one_refusal : (bytes console other : Text) → Refused bytes console → Refused bytes other → console ≡ other

-- `IsClearFile` holds for each file that the plan reads, and each outcome at its end is that the work is done.
abbrev pub IsClear : Plan → Type 0
IsClear (finish Done Cut) = (o : Outcome) → Done o → o.ending ≡ done
IsClear (judged name kind X Refused Accepted next) = IsClearFile X Refused Accepted × ((bytes : Text) (x : X) → Accepted bytes x → IsClear (next x))

-- The file of this name is refused with a text for which `OfText` holds, or accepted as something for which `OfThing`
-- holds.
pub data Judges (files : Files) (name : Text) (X : Type 0) (Refused : Text → Text → Type 0) (Accepted : Text → X → Type 0) (OfText : Text → Type 0) (OfThing : X → Type 0) : Type 0 where
  refused_file : (bytes console : Text) → get files name ≡ Some bytes → Refused bytes console → OfText console → Judges files name X Refused Accepted OfText OfThing
  accepted_file : (bytes : Text) (x : X) → get files name ≡ Some bytes → Accepted bytes x → OfThing x → Judges files name X Refused Accepted OfText OfThing

-- The files and the text are a part of an outcome of `Done`, or `Cut` holds for them.
abbrev pub IsLeftBy : (Outcome → Type 0) → (List (Text × Text) → Text → Type 0) → List (Text × Text) → Text → Type 0
IsLeftBy Done Cut made text = ((o : Outcome) × Done o × IsPartOf o made text) ⊎ Cut made text

module _ (files : Files) where
  -- The plan leads to a refusal, for whose kind of file and text `AtRefusal` holds, or to its end, for whose outcomes
  -- and cuts `AtEnd` holds.
  abbrev pub EndsIn : (FileKind → Text → Type 0) → ((Outcome → Type 0) → (List (Text × Text) → Text → Type 0) → Type 0) → Plan → Type 0
  EndsIn AtRefusal AtEnd (finish Done Cut) = AtEnd Done Cut
  EndsIn AtRefusal AtEnd (judged name kind X Refused Accepted next) = Judges files name X Refused Accepted (AtRefusal kind) (λ x. EndsIn AtRefusal AtEnd (next x))

  -- With these files, the plan calls for this outcome.
  abbrev pub CallsFor : Plan → Outcome → Type 0
  CallsFor plan o = EndsIn (λ kind console. o ≡ said (refused kind) console) (λ Done Cut. Done o) plan

  -- With these files on the shelf, the plan may leave the files `made` and this text if the run breaks off.
  abbrev pub MayLeave : Plan → List (Text × Text) → Text → Type 0
  MayLeave plan made text = EndsIn (λ kind console. IsPartOf (said (refused kind) console) made text) (λ Done Cut. IsLeftBy Done Cut made text) plan

  -- With these files, the plan leads to a file of this kind that is refused with this text.
  abbrev pub IsRefusedWith : Plan → FileKind → Text → Type 0
  IsRefusedWith plan kind console = EndsIn (λ k text. (kind ≡ k) × (console ≡ text)) (λ Done Cut. ⊥) plan

  -- The file that the plan reads last is read to its end, or to one byte past the limit of its kind, and the last
  -- argument is what is left of it. If the plan reads no file, what was left of an opened file stays.
  abbrev pub LeavesRest : Plan → Option Text → Option Text → Type 0
  LeavesRest (finish Done Cut) old new = new ≡ old
  LeavesRest (judged name kind X Refused Accepted next) old new = Judges files name X Refused Accepted (λ console. new ≡ left_of kind files name) (λ x. LeavesRest (next x) (left_of kind files name) new)

  -- Each file that the plan reads is accepted.
  abbrev pub AreAccepted : Plan → Type 0
  AreAccepted plan = EndsIn (λ kind console. ⊥) (λ Done Cut. ⊤) plan

  -- Each file that the plan reads is there, up to the first that is refused.
  abbrev pub AreHeld : Plan → Type 0
  AreHeld (finish Done Cut) = ⊤
  AreHeld (judged name kind X Refused Accepted next) = IsSome (get files name) × ((bytes : Text) (x : X) → get files name ≡ Some bytes → Accepted bytes x → AreHeld (next x))
