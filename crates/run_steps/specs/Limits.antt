-- How far a file is read.
use Rattle.std.specs.Prelude.{ℕ, ◌+◌, drop, Option}
use Rattle.std.specs.Option.{option_map}
use Rattle.std.specs.FinMap.{get}
use Rattle.diag_shelf.specs.World.{Files}
use Rattle.text_fields.specs.Fields.{Text}
use Rattle.run_steps.specs.declared.ending.FileKind.{FileKind}
use Rattle.run_steps.specs.declared.ending.FileKind.TheVariants.{Netlist, Result, Dictionary, Log, AdaptivePlan}

-- How many bytes a file of this kind may have at most.
abbrev pub limit_of : FileKind → ℕ
limit_of Netlist = 16777216
limit_of Result = 1099511627776
limit_of Dictionary = 1099511627776
limit_of Log = 1073741824
limit_of AdaptivePlan = 1073741824

-- What is left of the file of this name after as many bytes as the limit of its kind and one more; none if there is no
-- such file.
abbrev pub left_of : FileKind → Files → Text → Option Text
left_of kind files name = option_map (drop (limit_of kind + 1)) (get files name)
