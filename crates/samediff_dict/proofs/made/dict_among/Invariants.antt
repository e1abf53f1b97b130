use Rattle.samediff_dict.proofs.made.dict_among.Given as goal

abbrev pub ghost-choose_numbers : goal.ghost-choose_numbers
ghost-choose_numbers g a = g.t.rows

abbrev pub ghost-dict_with : goal.ghost-dict_with
ghost-dict_with g a = g.t
