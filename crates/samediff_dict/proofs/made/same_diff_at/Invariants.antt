use Rattle.samediff_dict.proofs.EvaluatedLemmas.{evaluated_answers}
use Rattle.samediff_dict.proofs.made.same_diff_at.Given as goal

abbrev pub ghost-dict_among : goal.ghost-dict_among
ghost-dict_among a = evaluated_answers a.setting.now.subject.now a.setting.now.patterns.now
