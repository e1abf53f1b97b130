use Rattle.samediff_dict.proofs.ImproveLemmas.{keeps}
use Rattle.samediff_dict.proofs.laws.keeps_as_many.Goals as goal

pub returns : goal.returns
returns c = keeps
