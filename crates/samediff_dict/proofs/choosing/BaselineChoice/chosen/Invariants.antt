use Rattle.samediff_dict.proofs.choosing.BaselineChoice.chosen.Given as goal

abbrev pub ghost-better : goal.ghost-better
ghost-better g a = g.rows

abbrev pub ghost-improve : goal.ghost-improve
ghost-improve g a = g.rows
