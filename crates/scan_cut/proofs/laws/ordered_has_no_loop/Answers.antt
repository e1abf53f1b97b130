use Rattle.scan_cut.proofs.OrderLemmas.{ordered_has_no_loop}
use Rattle.scan_cut.proofs.laws.ordered_has_no_loop.Goals as goal

pub returns : goal.returns
returns c = ordered_has_no_loop
