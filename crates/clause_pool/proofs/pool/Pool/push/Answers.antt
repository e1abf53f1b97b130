use Rattle.std.proofs.Common.{◌≡◌, ◌+◌, ◌∙◌, [], ◌∷◌, ◌++◌, ap, sym, subst, length, length-append, arith}
use Rattle.clause_pool.specs.Clauses.{Clauses, clauses_of}
use Rattle.clause_pool.specs.PoolFields.{AreEnds}
use Rattle.clause_pool.proofs.Regions.{length-clauses_of, clauses_of-push, AreEnds-push}
use Rattle.clause_pool.proofs.pool.Pool.push.Goals as goal

pub invariant_of-self : goal.invariant_of-self
invariant_of-self c =
    let i = c.self.inside in
    let h = c.self.invariant in
    let literals = length-append i.literals.items c.args.clause.now in
    let ends = length-append i.ends.items (c.len.result ∷ []) in
    let end_is : length (i.literals.items ++ c.args.clause.now) ≡ c.len.result = sym (c.len.ensures ∙ (c.append.new.region.ok.0 ∙ ap length c.append.ensures.items)) in
    rw (c.push_reserved.ensures.items, c.append.ensures.items, c.push_reserved.ensures.capacity, c.append.ensures.capacity) (record {
      cut = subst (λ total. AreEnds 0 (i.ends.items ++ c.len.result ∷ []) total) (sym end_is) (AreEnds-push 0 i.ends.items (length i.literals.items) c.len.result h.cut (omega (arith, end_is, literals)));
      few = omega (arith, ends);
      clause_room = omega (arith, ends);
      literal_room = omega (arith, literals);
    })

pub returns-clause-clauses : goal.returns-clause-clauses
returns-clause-clauses c =
    let i = c.self.inside in
    let end_is : c.len.result ≡ length i.literals.items + length c.args.clause.now =
    c.len.ensures ∙ (c.append.new.region.ok.0 ∙ (ap length c.append.ensures.items ∙ length-append i.literals.items c.args.clause.now)) in
    rw (c.push_reserved.ensures.items, c.append.ensures.items)
    (ap (λ end. clauses_of 0 (i.ends.items ++ end ∷ []) (i.literals.items ++ c.args.clause.now)) end_is
    ∙ (clauses_of-push 0 i.ends.items i.literals.items c.args.clause.now (length i.literals.items) c.self.invariant.cut (omega arith)
    ∙ ap (λ (pool : Clauses). pool.clauses ++ c.args.clause.now ∷ []) c.self.view_is))

pub returns-clause-number : goal.returns-clause-number
returns-clause-number c =
    c.len-2.ensures ∙ (c.push_reserved.new.self.ok.0 ∙ sym (length-clauses_of 0 c.push_reserved.new.self.items c.append.new.region.items))
