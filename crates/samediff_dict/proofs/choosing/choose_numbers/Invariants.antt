use Rattle.samediff_dict.proofs.choosing.choose_numbers.Given as goal

abbrev pub ghost-chosen : goal.ghost-chosen
ghost-chosen g a = g.rows
