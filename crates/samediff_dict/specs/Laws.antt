-- Laws of the choice.
use Rattle.std.specs.Prelude.{◌≡◌, ℕ, ◌≤◌, Bool, List, None, slice_set}
use Rattle.net_model.specs.ClassTable.{ClassTable}
use Rattle.dict_rows.specs.Entries.{free_baselines}
use Rattle.samediff_dict.specs.Chosen.{pairs_apart, improvement, chosen_baselines}

-- The third step has ended: no replacement of a chosen baseline by a candidate keeps more pairs apart.
abbrev pub NoneIsLeft : Type 0
NoneIsLeft = (t : ClassTable) (rows : List (List (List Bool))) → improvement t rows (chosen_baselines t rows) ≡ None

-- The chosen baselines keep at least as many pairs apart as the fault-free ones.
abbrev pub KeepsAsMany : Type 0
KeepsAsMany = (t : ClassTable) (rows : List (List (List Bool))) → pairs_apart t rows (free_baselines rows) ≤ pairs_apart t rows (chosen_baselines t rows)

-- No row in place of one of the chosen baselines keeps more pairs apart, even one that no class answers.
abbrev pub NoRowIsBetter : Type 0
NoRowIsBetter = (t : ClassTable) (rows : List (List (List Bool))) (pattern : ℕ) (row : List Bool) → pairs_apart t rows (slice_set (chosen_baselines t rows) pattern row) ≤ pairs_apart t rows (chosen_baselines t rows)
