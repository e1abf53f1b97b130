use Rattle.std.proofs.Common.{arith, subst, sym}
use Rattle.std.specs.Prelude.{All}
use Rattle.clause_pool.specs.Proper.{IsProper}
use Rattle.pair_miter.specs.Miter.{miter}
use Rattle.pair_miter.specs.MiterView.{Miter}
use Rattle.pair_miter.proofs.Bounds.{few_variables_of}
use Rattle.pair_miter.proofs.Within.{miter_proper}
use Rattle.pair_miter.proofs.miter.Miter.variables.Goals as goal

pub returns-clause-below : goal.returns-clause-below
returns-clause-below c =
    let q = c.self.inside.numbering in
    omega (arith, c.self.invariant.variables, few_variables_of q.circuit q.f q.g c.self.invariant.circuit)

pub returns-clause-proper : goal.returns-clause-proper
returns-clause-proper c =
    let q = c.self.inside.numbering in
    subst (λ (p : Miter). All (IsProper c.self.inside.variables) (miter p.circuit p.f p.g)) c.self.view_is
    (subst (λ n. All (IsProper n) (miter q.circuit q.f q.g)) (sym c.self.invariant.variables) (miter_proper q.circuit q.f q.g c.self.invariant.circuit))
