-- How a run ends, and the status of each ending.
use Rattle.std.specs.Prelude.{◌≡◌, ℕ, Result, Ok, Err, ⊤}
use Rattle.diag_shelf.specs.declared.shelf.ShelfFault.{ShelfFault}
use Rattle.diag_shelf.specs.declared.shelf.ShelfFault.TheVariants as shelf
use Rattle.run_steps.specs.declared.ending.FileKind.{FileKind}
use Rattle.run_steps.specs.declared.ending.FileKind.TheVariants as kind
use Rattle.run_steps.specs.declared.ending.RunFault.{RunFault}
use Rattle.run_steps.specs.declared.ending.RunFault.TheVariants.{NotUnderstood, Refused, ReadFailed, WriteFailed, NoMemory}

-- How a run ends: the work is done, or it isn't, for the given reason.
abbrev pub Ending : Type 0
Ending = Result (Unit {0}) RunFault

abbrev pub done : Ending
done = Ok tt

-- The words aren't understood.
abbrev pub not_understood : Ending
not_understood = Err NotUnderstood

-- A file of this kind is refused.
abbrev pub refused : FileKind → Ending
refused kind = Err (Refused kind)

abbrev pub read_failed : Ending
read_failed = Err ReadFailed

abbrev pub write_failed : Ending
write_failed = Err WriteFailed

abbrev pub no_memory : Ending
no_memory = Err NoMemory

-- The ending is that a file is refused.
abbrev pub IsRefusal : Ending → Type 0
IsRefusal (Ok x) = ⊥
IsRefusal (Err NotUnderstood) = ⊥
IsRefusal (Err (Refused kind)) = ⊤
IsRefusal (Err ReadFailed) = ⊥
IsRefusal (Err WriteFailed) = ⊥
IsRefusal (Err NoMemory) = ⊥

-- The words and files decide the ending: it isn't that a read or a write failed, or that memory was missing.
abbrev pub IsDecided : Ending → Type 0
IsDecided (Ok x) = ⊤
IsDecided (Err NotUnderstood) = ⊤
IsDecided (Err (Refused kind)) = ⊤
IsDecided (Err ReadFailed) = ⊥
IsDecided (Err WriteFailed) = ⊥
IsDecided (Err NoMemory) = ⊥

-- ---- the ending that a fault of the shelf gives

-- Why a run ends after this fault of a read.
abbrev pub read_fault : ShelfFault → RunFault
read_fault shelf.Failed = ReadFailed
read_fault shelf.NoMemory = NoMemory

-- Why a run ends after this fault of a write.
abbrev pub write_fault : ShelfFault → RunFault
write_fault shelf.Failed = WriteFailed
write_fault shelf.NoMemory = NoMemory

-- ---- statuses

-- The status with which the program ends.
abbrev pub status_of : Ending → ℕ
status_of (Ok x) = 0
status_of (Err NotUnderstood) = 2
status_of (Err (Refused kind.Netlist)) = 3
status_of (Err (Refused kind.Result)) = 4
status_of (Err (Refused kind.Dictionary)) = 5
status_of (Err (Refused kind.Log)) = 6
status_of (Err ReadFailed) = 7
status_of (Err WriteFailed) = 8
status_of (Err NoMemory) = 9
status_of (Err (Refused kind.AdaptivePlan)) = 10

-- Endings that have the same status are the same.
abbrev pub OneEndingEach : Type 0
OneEndingEach = (ending other : Ending) → status_of ending ≡ status_of other → ending ≡ other
