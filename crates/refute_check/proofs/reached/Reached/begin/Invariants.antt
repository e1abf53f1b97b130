use Rattle.std.proofs.Common.{take}
use Rattle.refute_check.specs.Reached.{IsReached}
use Rattle.refute_check.proofs.reached.Reached.begin.Given as goal

abbrev pub invariant-loop-lit : goal.invariant-loop-lit
invariant-loop-lit l = IsReached l.self (take l.lit-index l.clause)
