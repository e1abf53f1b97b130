use Rattle.samediff_dict.proofs.setting.copy_range.Given as goal

abbrev pub ghost-chosen_answers : goal.ghost-chosen_answers
ghost-chosen_answers g a = g.t
