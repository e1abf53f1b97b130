use Rattle.samediff_dict.proofs.AnyRowLemmas.{no_row_better}
use Rattle.samediff_dict.proofs.laws.no_row_is_better.Goals as goal

pub returns : goal.returns
returns c = no_row_better
