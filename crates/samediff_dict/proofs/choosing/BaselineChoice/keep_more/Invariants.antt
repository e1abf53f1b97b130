use Rattle.samediff_dict.proofs.choosing.BaselineChoice.keep_more.Given as goal

abbrev pub ghost-apart : goal.ghost-apart
ghost-apart g a = g.rows
