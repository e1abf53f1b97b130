use Rattle.diagnose.proofs.VectorLemmas.{list_refused_wrong, list_refused_once, list_read_once}
use Rattle.diagnose.proofs.laws.list_is_read_once.Goals as goal

pub returns : goal.returns
returns c = record { wrong = list_refused_wrong; refusal = list_refused_once; reading = list_read_once }
