use Rattle.std.proofs.Common.{◌≤◌, get_or, arith, sym, subst}
use Rattle.clause_pool.specs.Literal.{Literal}
use Rattle.pair_miter.proofs.tidier.Tidier.write.Goals as goal

pub write_once-requires-clause-places : goal.write_once-requires-clause-places
write_once-requires-clause-places c = λ k d less.
    let l : Literal = get_or c.args.clause.now k d in
    let within = subst (λ n. l.variable ≤ n) (sym c.self.view_is) (c.requires k d less) in
    omega (arith, within, c.self.invariant.places)
