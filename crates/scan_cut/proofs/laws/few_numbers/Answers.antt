use Rattle.scan_cut.proofs.SiteLemmas.{few_numbers}
use Rattle.scan_cut.proofs.laws.few_numbers.Goals as goal

pub returns : goal.returns
returns c = few_numbers
