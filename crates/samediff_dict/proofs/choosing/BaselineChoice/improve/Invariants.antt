use Rattle.samediff_dict.proofs.choosing.BaselineChoice.improve.Given as goal

abbrev pub ghost-counted : goal.ghost-counted
ghost-counted g a = g.rows

abbrev pub ghost-replace_all : goal.ghost-replace_all
ghost-replace_all g a = g.rows
