use Rattle.std.proofs.Common.{refl}
use Rattle.diag_shelf.proofs.Steps.{failed_read}
use Rattle.diag_shelf.proofs.sure.SureShelfShelf.open_file.Goals as goal

pub returns-in-None-clause-call : goal.returns-in-None-clause-call
returns-in-None-clause-call c = rw (← c.self.view_is, c.raise.ensures.fault) (failed_read _ _ _ refl c.raise.ensures.raised c.raise.ensures.later)
