use Rattle.std.proofs.Common.{◌≡◌, ◌+◌, subst, arith, inl, inr}
use Rattle.std.proofs.lemmas.Bool.{cases_lt}
use Rattle.learn_solver.specs.Ready.{IsSet}
use Rattle.learn_solver.proofs.decider.lowest_unset.Goals as goal

pub loop-at-preserved : goal.loop-at-preserved
loop-at-preserved c = λ x from le. elim (cases_lt c.loop-at.at x) [
  | inl above ↦ let same : c.loop-at.at + 1 ≡ x = omega arith in subst (IsSet c.args.trail.now.assignment) same c.if-is_unset.ensures
  | inr within ↦ c.loop-at.invariant x from within
]
