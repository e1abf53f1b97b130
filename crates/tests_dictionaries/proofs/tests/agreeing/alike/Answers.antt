use Rattle.std.proofs.Common.{arith}
use Rattle.tests_dictionaries.proofs.AlikeLemmas.{leads_alike}
use Rattle.tests_dictionaries.proofs.tests.agreeing.alike.Goals as goal

pub returns : goal.returns
returns c =
    λ _. leads_alike c.args.classes.now c.args.table.now c.requires (λ pattern h. c.loop-pattern.invariant pattern (omega (arith, h, c.patterns-pattern-end.ensures.value)))
