use Rattle.std.proofs.Common.{◌≡◌, ◌∙◌, ◌/◌, inl, refl, sym, ap, subst, arith}
use Rattle.std.specs.Prelude.{Contains}
use Rattle.std.proofs.lemmas.List.{get_or_read}
use Rattle.clause_pool.specs.Literal.{Literal}
use Rattle.clause_pool.specs.Clauses.{numbered_clause}
use Rattle.clause_pool.proofs.Numbered.{has_numbered}
use Rattle.solver_trail.specs.Assignment.{assigned_literals}
use Rattle.solver_trail.specs.Watches.{other_watched, watched, watched_literals, owner}
use Rattle.solver_trail.specs.Propagation.{IsVisited, numbers_attached}
use Rattle.solver_trail.proofs.Forced.{propagates_none}
use Rattle.solver_trail.proofs.Walk.{half_within, other_within, number_in, number_bounds, clause_proper, both_watched, inside, watches_more}
use Rattle.solver_trail.proofs.propagation.visit_watch.Goals as goal
use Rattle.solver_trail.proofs.propagation.visit_watch.Goals.{After-index-number, After-literal-other}

-- ---- what is read

pub partner-requires : goal.partner-requires
partner-requires c = omega (arith, c.requires.within, c.requires.few)

pub literal-other-requires : goal.literal-other-requires
literal-other-requires c = omega (arith, other_within c.requires.watches c.requires.within, c.partner.ensures)

other_is : (c : After-literal-other) → c.literal-other.result ≡ other_watched (watched_literals c.args.watches.now) c.args.watch
other_is c = c.literal-other.ensures ∙ ap (watched (watched_literals c.args.watches.now)) c.partner.ensures

pub is_true-requires : goal.is_true-requires
is_true-requires c =
    let h = c.requires.watches in
    let within = c.requires.within in
    let b = number_bounds h within in
    let f = has_numbered c.args.pool.now.clauses (owner c.args.attached.now.long.items c.args.watch) b.0 b.1 in
    let is_in = inside h within f.0 f.1 (other_watched (watched_literals c.args.watches.now) c.args.watch) (both_watched h within f.0 f.1).second in
    omega (arith, is_in, ap (λ (l : Literal). l.variable) (other_is (goal.at.is_true-requires c).After-literal-other))

pub index-number-requires : goal.index-number-requires
index-number-requires c = omega (arith, half_within c.requires.watches c.requires.within, c.args.attached.now.long.ok.0)

number_is : (c : After-index-number) → c.index-number.result.now ≡ owner c.args.attached.now.long.items c.args.watch
number_is c = get_or_read c.args.attached.now.long.items (c.args.watch / 2) c.index-number.result.now (half_within c.requires.watches c.requires.within) c.index-number.ensures 0

pub visit-requires-clause-from : goal.visit-requires-clause-from
visit-requires-clause-from c = let d = (goal.at.visit-requires-clause-from c).After-index-number in omega (arith, number_is d, (number_bounds c.requires.watches c.requires.within).0)

pub visit-requires-clause-below : goal.visit-requires-clause-below
visit-requires-clause-below c = let d = (goal.at.visit-requires-clause-below c).After-index-number in omega (arith, number_is d, (number_bounds c.requires.watches c.requires.within).1)

pub visit-requires-clause-proper : goal.visit-requires-clause-proper
visit-requires-clause-proper c = λ clause e.
    let d = (goal.at.visit-requires-clause-proper c).After-index-number in
    clause_proper c.requires.watches c.requires.within clause (ap (numbered_clause c.args.pool.now.clauses) (sym (number_is d)) ∙ e)

pub visit-requires-clause-other : goal.visit-requires-clause-other
visit-requires-clause-other c = λ clause e.
    let d = (goal.at.visit-requires-clause-other c).After-index-number in
    let o = (goal.at.visit-requires-clause-other c).After-literal-other in
    subst (Contains clause) (sym (other_is o)) (both_watched c.requires.watches c.requires.within clause (ap (numbered_clause c.args.pool.now.clauses) (sym (number_is d)) ∙ e)).second

-- ---- what is found

pub returns-then-is_true-clause-set : goal.returns-then-is_true-clause-set
returns-then-is_true-clause-set c = propagates_none c.args.set.now

pub returns-then-is_true-clause-target : goal.returns-then-is_true-clause-target
returns-then-is_true-clause-target c = λ clause e.
    let held = c.is_true.ensures.0 c.if-is_true.true in
    inl (refl, subst (Contains (assigned_literals c.args.set.now)) (other_is (goal.at.returns-then-is_true-clause-target c).After-literal-other) held)

pub returns-clause-watches : goal.returns-clause-watches
returns-clause-watches c =
    let d = (goal.at.returns-clause-watches c).After-index-number in
    let h = c.requires.watches in
    let is_in = subst (Contains (numbers_attached c.args.attached.now)) (sym (number_is d)) (number_in h c.requires.within) in
    watches_more h c.visit.ensures.set (c.visit.ensures.reasons (numbers_attached c.args.attached.now) is_in h.reasons)

pub returns-clause-target : goal.returns-clause-target
returns-clause-target c =
    let d = (goal.at.returns-clause-target c).After-index-number in
    let o = (goal.at.returns-clause-target c).After-literal-other in
    let clauses = c.args.pool.now.clauses in
    let held = assigned_literals c.visit.new.set in
    subst (λ l. IsVisited clauses (owner c.args.attached.now.long.items c.args.watch) held c.args.lit l c.visit.result) (other_is o)
    (subst (λ n. IsVisited clauses n held c.args.lit c.literal-other.result c.visit.result) (number_is d) c.visit.ensures.target)
