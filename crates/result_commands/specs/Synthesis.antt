-- The budgets of the results that `synth` makes.
use Rattle.result_records.specs.declared.record.Budgets.{Budgets}

-- 4 blocks, 16 cubes and 100 conflicts
abbrev pub synth_budgets : Budgets
synth_budgets = record { blocks = 4; cubes = 16; conflicts = 100 }
