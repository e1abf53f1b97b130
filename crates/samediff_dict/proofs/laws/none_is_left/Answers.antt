use Rattle.samediff_dict.proofs.ImproveLemmas.{none_left}
use Rattle.samediff_dict.proofs.laws.none_is_left.Goals as goal

pub returns : goal.returns
returns c = none_left
