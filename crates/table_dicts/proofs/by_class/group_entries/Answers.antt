use Rattle.std.proofs.Common.{◌≡◌, ◌∙◌, ℕ, Bool, List, length, map, ap, subst, arith}
use Rattle.std.specs.Prelude.{IfOk}
use Rattle.std.proofs.lemmas.List.{length-map}
use Rattle.net_model.specs.ClassTable.{class_at}
use Rattle.net_model.specs.Rows.{row_at}
use Rattle.dict_rows.specs.declared.grouping.Grouped.{Grouped}
use Rattle.dict_rows.specs.Grouped.{AreGroupsOf}
use Rattle.table_dicts.proofs.by_class.group_entries.Goals as goal
use Rattle.table_dicts.proofs.by_class.group_entries.Goals.{In_ok-cells}

cells_are : (c : In_ok-cells) → c.in_ok-cells.cells ≡ map (row_at c.args.entries.now) (map (class_at c.args.classes.now) c.args.numbers.now)
cells_are c = c.in_ok-cells.ensures ∙ ap (λ (xs : List ℕ). map (row_at c.args.entries.now) xs) (c.as_slice.ensures.value ∙ c.in_ok-own.ensures.classes)

pub rows_at-requires : goal.rows_at-requires
rows_at-requires c = rw (c.as_slice.ensures.value, c.requires.entries) c.in_ok-own.ensures.within

pub group_rows-requires : goal.group_rows-requires
group_rows-requires c =
    let at = (goal.at.group_rows-requires c).In_ok-cells in
    let own = map (class_at c.args.classes.now) c.args.numbers.now in
    omega (arith, ap length (cells_are at), length-map own (row_at c.args.entries.now), length-map c.args.numbers.now (class_at c.args.classes.now), c.requires.few)

pub returns : goal.returns
returns c =
    subst (λ (rows : List (List Bool)). IfOk c.group_rows.result (λ (grouped : Grouped). AreGroupsOf rows grouped.groups grouped.entries)) (cells_are (goal.at.returns c).In_ok-cells) c.group_rows.ensures
