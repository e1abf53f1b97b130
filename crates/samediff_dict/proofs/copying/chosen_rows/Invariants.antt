use Rattle.samediff_dict.proofs.copying.chosen_rows.Given as goal

abbrev pub ghost-choose_numbers : goal.ghost-choose_numbers
ghost-choose_numbers g a = g.rows
