use Rattle.refute_check.proofs.ReachedLemmas.{reached_none}
use Rattle.refute_check.proofs.reached.Reached.new.Goals as goal

pub returns : goal.returns
returns c = reached_none (record { marks = c.new.result; listed = c.new-2.result }) c.new.ensures.items
