use Rattle.std.proofs.Common.{◌+◌, arith}
use Rattle.refute_check.proofs.looked.Looked.forget.Goals as goal

pub returns-clause-none : goal.returns-clause-none
returns-clause-none c = λ number at there.
    let old = c.requires number (c.args.held + 1 + at) (omega (arith, there.0, there.1, c.saturating_add.ensures, c.saturating_add-self.ensures), omega (arith, there.1, c.saturating_add.ensures, c.saturating_add-self.ensures)) in
    omega (arith, old)
