-- Which faults of a reader of result files are those of the shelf.
use Rattle.std.specs.Prelude.{Result, Ok, Err}
use Rattle.diag_shelf.specs.declared.shelf.ShelfFault.{ShelfFault}
use Rattle.diag_shelf.specs.declared.shelf.ShelfFault.TheVariants as shelf
use Rattle.dia_check.specs.declared.answer.FileFault.{FileFault}
use Rattle.dia_check.specs.declared.answer.FileFault.TheVariants as file

-- What is returned, as far as the shelf is concerned: a refusal of the contents is no fault of the shelf.
abbrev pub as_shelf : {T : Type 0} → Result T FileFault → Result (Unit {0}) ShelfFault
as_shelf (Ok x) = Ok tt
as_shelf (Err (file.Result fault)) = Ok tt
as_shelf (Err file.Failed) = Err shelf.Failed
as_shelf (Err file.NoMemory) = Err shelf.NoMemory

abbrev pub file_fault : ShelfFault → FileFault
file_fault shelf.Failed = file.Failed
file_fault shelf.NoMemory = file.NoMemory
