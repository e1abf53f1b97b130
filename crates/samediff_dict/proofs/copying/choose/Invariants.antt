use Rattle.samediff_dict.proofs.copying.choose.Given as goal

abbrev pub ghost-chosen_rows : goal.ghost-chosen_rows
ghost-chosen_rows a = a.table.now.rows
