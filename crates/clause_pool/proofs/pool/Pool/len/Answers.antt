use Rattle.std.proofs.Common.{◌∙◌, ap, sym}
use Rattle.clause_pool.specs.Clauses.{Clauses}
use Rattle.clause_pool.proofs.Regions.{shown_count}
use Rattle.clause_pool.proofs.pool.Pool.len.Goals as goal

pub returns : goal.returns
returns c =
    let i = c.self.inside in
    c.len.ensures ∙ (i.ends.ok.0 ∙ sym (shown_count i.ends.items i.literals.items c.args.self.now.clauses (ap (λ (pool : Clauses). pool.clauses) c.self.view_is)))
