use Rattle.std.proofs.Common.{◌≡◌, ◌+◌, ◌∙◌, ap, sym, subst, take, length, arith}
use Rattle.std.proofs.lemmas.List.{length-take-le}
use Rattle.std.proofs.lemmas.List.Sums.{sum_by-take-le}
use Rattle.clause_pool.specs.Clauses.{Clauses, clauses_of, literal_count}
use Rattle.clause_pool.specs.PoolFields.{AreEnds}
use Rattle.clause_pool.proofs.Regions.{shown_count, shown_literals, AreEnds-take, clauses_of-take}
use Rattle.clause_pool.proofs.pool.Pool.release.Goals as goal

pub overflow_sub-self : goal.overflow_sub-self
overflow_sub-self c =
    let i = c.self.inside in
    let used = shown_count i.ends.items i.literals.items c.args.self.now.clauses (ap (λ (pool : Clauses). pool.clauses) c.self.view_is) in
    omega (arith, used, i.ends.ok.0)

pub overflow_sub-self-2 : goal.overflow_sub-self-2
overflow_sub-self-2 c =
    let i = c.self.inside in
    let used = shown_literals i.ends.items i.literals.items c.args.self.now.clauses c.self.invariant.cut (ap (λ (pool : Clauses). pool.clauses) c.self.view_is) in
    omega (arith, used, i.literals.ok.0, c.requires.literals, sum_by-take-le length c.args.self.now.clauses c.args.mark.clauses)

pub invariant_of-self : goal.invariant_of-self
invariant_of-self c =
    let i = c.self.inside in
    let h = c.self.invariant in
    let k = c.args.mark.clauses in
    let same = ap (λ (pool : Clauses). pool.clauses) c.self.view_is in
    let used = shown_count i.ends.items i.literals.items c.args.self.now.clauses same in
    let all = shown_literals i.ends.items i.literals.items c.args.self.now.clauses h.cut same in
    let ends = length-take-le k i.ends.items (omega (arith, used, c.requires.clauses)) in
    let part = sum_by-take-le length c.args.self.now.clauses k in
    let kept = length-take-le c.args.mark.literals i.literals.items (omega (arith, all, c.requires.literals, part)) in
    let cut = AreEnds-take 0 i.ends.items i.literals.items (length i.literals.items) k h.cut (omega arith) (omega (arith, used, c.requires.clauses)) in
    let count : literal_count (take k (clauses_of 0 i.ends.items i.literals.items)) ≡ c.args.mark.literals = ap (λ cs. literal_count (take k cs)) same ∙ c.requires.literals in
    let total : 0 + literal_count (take k (clauses_of 0 i.ends.items i.literals.items)) ≡ length (take c.args.mark.literals i.literals.items) = omega (arith, count, kept) in
    rw (c.truncate.ensures.items, c.truncate-2.ensures.items, c.truncate.ensures.capacity, c.truncate-2.ensures.capacity) (record {
      cut = subst (λ n. AreEnds 0 (take k i.ends.items) n) total cut;
      few = omega (arith, ends, used, i.ends.ok.0);
      clause_room = omega (arith, ends, used, i.ends.ok.0);
      literal_room = omega (arith, kept, all, i.literals.ok.0);
    })

kept_clauses : goal.returns-clause-clauses
kept_clauses c =
    let i = c.self.inside in
    let k = c.args.mark.clauses in
    let same = ap (λ (pool : Clauses). pool.clauses) c.self.view_is in
    let used = shown_count i.ends.items i.literals.items c.args.self.now.clauses same in
    let count : literal_count (take k (clauses_of 0 i.ends.items i.literals.items)) ≡ c.args.mark.literals = ap (λ cs. literal_count (take k cs)) same ∙ c.requires.literals in
    rw (c.truncate.ensures.items, c.truncate-2.ensures.items)
    (ap (λ n. clauses_of 0 (take k i.ends.items) (take n i.literals.items)) (sym count)
    ∙ (clauses_of-take 0 i.ends.items i.literals.items (length i.literals.items) k c.self.invariant.cut (omega arith) (omega (arith, used, c.requires.clauses))
    ∙ ap (λ cs. take k cs) same))

pub returns-clause-clauses : goal.returns-clause-clauses
returns-clause-clauses c = kept_clauses c

pub returns-clause-clause_places : goal.returns-clause-clause_places
returns-clause-clause_places c =
    let i = c.self.inside in
    let used = shown_count i.ends.items i.literals.items c.args.self.now.clauses (ap (λ (pool : Clauses). pool.clauses) c.self.view_is) in
    let spare = ap (λ (pool : Clauses). pool.spare_clauses) c.self.view_is in
    let kept = ap length (kept_clauses c) in
    let first = length-take-le c.args.mark.clauses c.args.self.now.clauses c.requires.clauses in
    omega (arith, used, spare, kept, first, i.ends.ok.0, c.len.ensures)

pub returns-clause-literal_places : goal.returns-clause-literal_places
returns-clause-literal_places c =
    let i = c.self.inside in
    let used = shown_literals i.ends.items i.literals.items c.args.self.now.clauses c.self.invariant.cut (ap (λ (pool : Clauses). pool.clauses) c.self.view_is) in
    let spare = ap (λ (pool : Clauses). pool.spare_literals) c.self.view_is in
    let kept = ap literal_count (kept_clauses c) in
    let part = sum_by-take-le length c.args.self.now.clauses c.args.mark.clauses in
    omega (arith, used, spare, kept, part, i.literals.ok.0, c.requires.literals, c.len-2.ensures)
