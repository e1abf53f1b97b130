use Rattle.std.proofs.Common.{◌≡◌, ◌∙◌, ◌+◌, ◌<◌, ◌++◌, ◌∷◌, ℕ, List, [], take, length, get_or, sym, ap, subst, arith}
use Rattle.std.proofs.lemmas.List.{take_all, take_more, length-take-le}
use Rattle.std.specs.Prelude.{Some}
use Rattle.clause_pool.specs.Clauses.{Clause, numbered_clause}
use Rattle.clause_pool.specs.Proper.{HasVariablesUpTo}
use Rattle.clause_pool.proofs.Numbered.{numbered_at, same_clause}
use Rattle.refute_check.specs.Index.{IsIndexOf}
use Rattle.refute_check.proofs.IndexLemmas.{places_for}
use Rattle.refute_check.proofs.index.Index.of.Goals as goal

clause_at : (clauses : List Clause) (at : ℕ) (clause : Clause) → numbered_clause clauses (at + 1) ≡ Some clause → at < length clauses → clause ≡ get_or clauses at []
clause_at clauses at clause named inside = same_clause clauses (at + 1) clause (get_or clauses at []) named (numbered_at clauses at [] inside)

pub add-requires : goal.add-requires
add-requires c =
    let clauses = c.args.pool.now.clauses in
    let at = c.loop-at.at in
    let clause = c.get.result.now in
    let inside : at < length clauses = omega (arith, c.loop-at-test.true, c.len-at-end.ensures) in
    places_for c.args.variables c.loop-at.index.lists clause c.loop-at.invariant.places (subst (HasVariablesUpTo c.args.variables) (sym (clause_at clauses at clause c.get.ensures inside)) (c.requires at [] inside))

pub loop-at-preserved : goal.loop-at-preserved
loop-at-preserved c =
    let clauses = c.args.pool.now.clauses in
    let at = c.loop-at.at in
    let clause = c.get.result.now in
    let inside : at < length clauses = omega (arith, c.loop-at-test.true, c.len-at-end.ensures) in
    let next : length (take at clauses) + 1 ≡ at + 1 = omega (arith, length-take-le at clauses (omega arith)) in
    let more : take at clauses ++ clause ∷ [] ≡ take (at + 1) clauses = ap (λ (x : Clause). take at clauses ++ x ∷ []) (clause_at clauses at clause c.get.ensures inside) ∙ sym (take_more clauses at [] inside) in
    subst (λ cs. IsIndexOf c.args.variables cs c.add.new.self.lists c.add.new.self.short.items) more (c.in_ok-add.ensures c.args.variables (take at clauses) next c.loop-at.invariant)

pub returns : goal.returns
returns c =
    let clauses = c.args.pool.now.clauses in
    let all : take c.loop-at.at clauses ≡ clauses = take_all c.loop-at.at clauses (omega (arith, c.loop-at-test.false, c.len-at-end.ensures)) in
    subst (λ cs. IsIndexOf c.args.variables cs c.loop-at.index.lists c.loop-at.index.short.items) all c.loop-at.invariant
