use Rattle.std.proofs.lemmas.Result.{on_ok_weaker}
use Rattle.refute_check.proofs.log.take_in.Goals as goal

pub returns : goal.returns
returns c = on_ok_weaker c.add.result (λ adds variables clauses next ready spent. adds variables clauses next (ready spent)) c.add.ensures
