use Rattle.std.proofs.Common.{arith}
use Rattle.pair_miter.proofs.Bounds.{few_clauses}
use Rattle.pair_miter.proofs.miter.Miter.clause_count.Goals as goal

pub returns-clause-below : goal.returns-clause-below
returns-clause-below c =
    let q = c.self.inside.numbering in
    omega (arith, c.self.invariant.clauses, few_clauses q.circuit q.f q.g c.self.invariant.circuit)
