use Rattle.std.proofs.Common.{refl}
use Rattle.diag_shelf.proofs.Steps.{failed_write, write_done, facts_same}
use Rattle.diag_shelf.proofs.sure.SureShelfShelf.write.Goals as goal

pub returns-in-None-clause-call : goal.returns-in-None-clause-call
returns-in-None-clause-call c = rw (← c.self.view_is, c.raise.ensures.fault) (failed_write _ _ _ refl c.raise.ensures.raised c.raise.ensures.later)

pub returns-else-not-is_empty-clause-call : goal.returns-else-not-is_empty-clause-call
returns-else-not-is_empty-clause-call c = write_done _ _ _ (facts_same _)

pub returns-in_ok-append-in-Some-clause-call : goal.returns-in_ok-append-in-Some-clause-call
returns-in_ok-append-in-Some-clause-call c = rw (← c.self.view_is) (write_done _ _ _ (record { tells = refl; sure = refl; reads = refl; writes = refl }))
