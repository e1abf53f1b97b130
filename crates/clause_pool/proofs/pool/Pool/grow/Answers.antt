use Rattle.std.proofs.Common.{ap, arith}
use Rattle.clause_pool.specs.Clauses.{Clauses}
use Rattle.clause_pool.proofs.Regions.{shown_count}
use Rattle.clause_pool.proofs.pool.Pool.grow.Goals as goal

pub invariant_of-self-2 : goal.invariant_of-self-2
invariant_of-self-2 c =
    let i = c.self.inside in
    let h = c.self.invariant in
    let used = shown_count i.ends.items i.literals.items c.args.self.now.clauses (ap (λ (pool : Clauses). pool.clauses) c.self.view_is) in
    rw (c.in_ok-reserve.ensures.items, c.in_ok-reserve-2.ensures.items) (record {
      cut = h.cut;
      few = omega (arith, used);
      clause_room = omega (arith, i.ends.ok.0, c.in_ok-reserve.ensures.ok, c.in_ok-reserve.ensures.len, c.in_ok-reserve.ensures.capacity);
      literal_room = omega (arith, i.literals.ok.0, c.in_ok-reserve-2.ensures.ok, c.in_ok-reserve-2.ensures.len, c.in_ok-reserve-2.ensures.capacity);
    })
