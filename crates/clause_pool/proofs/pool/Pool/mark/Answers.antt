use Rattle.std.proofs.Common.{◌∙◌, ap, sym}
use Rattle.clause_pool.specs.Clauses.{Clauses}
use Rattle.clause_pool.proofs.Regions.{shown_count, shown_literals}
use Rattle.clause_pool.proofs.pool.Pool.mark.Goals as goal

pub returns-clause-clauses : goal.returns-clause-clauses
returns-clause-clauses c =
    let i = c.self.inside in
    c.len.ensures ∙ (i.ends.ok.0 ∙ sym (shown_count i.ends.items i.literals.items c.args.self.now.clauses (ap (λ (pool : Clauses). pool.clauses) c.self.view_is)))

pub returns-clause-literals : goal.returns-clause-literals
returns-clause-literals c =
    let i = c.self.inside in
    c.len-2.ensures ∙ (i.literals.ok.0 ∙ sym (shown_literals i.ends.items i.literals.items c.args.self.now.clauses c.self.invariant.cut (ap (λ (pool : Clauses). pool.clauses) c.self.view_is)))
