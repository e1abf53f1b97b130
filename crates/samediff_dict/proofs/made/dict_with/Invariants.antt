use Rattle.samediff_dict.proofs.made.dict_with.Given as goal

abbrev pub ghost-baselines : goal.ghost-baselines
ghost-baselines g a = g.t
