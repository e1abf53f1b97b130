use Rattle.std.proofs.Common.{◌≡◌}
use Rattle.std.specs.Prelude.{Bool, true, false}
use Rattle.refute_check.proofs.WalkLemmas.{undecided_only}
use Rattle.refute_check.proofs.tree.Walk.is_undecided.Goals as goal

pub returns-in_default : goal.returns-in_default
returns-in_default c = (
  λ t. absurd (let e : ◌≡◌ {A = Bool} false true = t in cc),
  λ undecided. absurd (undecided_only c.args.self.now c.requires c.state.result c.state.ensures c.in_default.not-Undecided undecided),
)
