-- What a run does if nothing keeps it from that: its ending, the files that it makes, in order, and what it prints.
use Rattle.std.specs.Prelude.{◌≡◌, ℕ, ◌≤◌, List, [], ◌∷◌, ◌++◌, length, take, Option, Some}
use Rattle.std.specs.FinMap.{insert}
use Rattle.diag_shelf.specs.World.{Files, World}
use Rattle.text_fields.specs.Fields.{Text}
use Rattle.run_steps.specs.Ending.{Ending, done}

-- What a run does: its ending, the files that it makes, in order, each as its name and its bytes, and the text that it
-- prints.
pub record Outcome : Type 0 where
  pub ending : Ending
  pub made : List (Text × Text)
  pub console : Text

-- The outcome with this ending that makes no file and prints this text.
abbrev pub said : Ending → Text → Outcome
said ending console = record { ending = ending; made = []; console = console }

-- The outcome whose work is done: it makes these files and prints this text.
abbrev pub saved : List (Text × Text) → Text → Outcome
saved made console = record { ending = done; made = made; console = console }

-- ---- what may be left if a run breaks off: the files that were made, and what was printed

-- The first files are a beginning of the others: whole files, and the last perhaps cut.
abbrev pub IsCut : List (Text × Text) → List (Text × Text) → Type 0
IsCut [] whole = Unit {0}
IsCut (c ∷ cut) [] = ⊥
IsCut (c ∷ []) (m ∷ whole) = (c.0 ≡ m.0) × ((n : ℕ) × (n ≤ length m.1) × (c.1 ≡ take n m.1))
IsCut (c ∷ d ∷ cut) (m ∷ whole) = (c ≡ m) × IsCut (d ∷ cut) whole

-- The first text is a beginning of the other.
abbrev pub IsCutText : Text → Text → Type 0
IsCutText cut whole = (n : ℕ) × (n ≤ length whole) × (cut ≡ take n whole)

-- The files and the text are a part of the outcome: a beginning of its files, the last perhaps cut, and a beginning of
-- its text, of which nothing is printed before all files are made.
pub record IsPartOf (o : Outcome) (made : List (Text × Text)) (text : Text) : Type 0 where
  pub files : IsCut made o.made
  pub console : IsCutText text o.console
  pub order : ¬ (text ≡ []) → made ≡ o.made

-- ---- what a run leaves

-- The files that a shelf holds after these were made in turn.
abbrev pub after_made : List (Text × Text) → Files → Files
after_made [] files = files
after_made (m ∷ made) files = after_made made (insert files m.0 m.1)

-- The written name after these files were made.
abbrev pub written_after : List (Text × Text) → Option Text → Option Text
written_after [] written = written
written_after (m ∷ made) written = written_after made (Some m.0)

-- The console gained exactly this text.
abbrev pub ConsoleGained : Text → World → World → Type 0
ConsoleGained text old new = new.console ≡ old.console ++ text

-- These files were made and this text was printed, and nothing else was done. Which file is opened, and how far it was
-- read, is left open.
pub record Leaves (made : List (Text × Text)) (text : Text) (old new : World) : Type 0 where
  pub files : new.files ≡ after_made made old.files
  pub written : new.written ≡ written_after made old.written
  pub console : ConsoleGained text old new

-- No file was created or changed, and not even an empty one created anew: the written name is as before.
pub record KeepsFiles (old new : World) : Type 0 where
  pub files : new.files ≡ old.files
  pub written : new.written ≡ old.written

-- No file was created or changed, and nothing was printed. Which file is opened, and how far it was read, is left open.
pub record IsUntouched (old new : World) : Type 0 where
  pub kept : KeepsFiles old new
  pub console : new.console ≡ old.console
