use Rattle.std.proofs.Common.{◌≡◌, ◌∙◌, ◌/◌, length, refl, sym, ap, subst, arith, length-append}
use Rattle.std.specs.Prelude.{Some, Contains}
use Rattle.std.proofs.lemmas.List.{get_or_read, length-set, nil_from_length}
use Rattle.clause_pool.specs.Literal.{opposite}
use Rattle.clause_pool.specs.Clauses.{Clause, numbered_clause}
use Rattle.clause_pool.proofs.Numbered.{has_numbered}
use Rattle.solver_trail.specs.Assignment.{assigned_literals}
use Rattle.solver_trail.specs.Watches.{owner, watched_literals}
use Rattle.solver_trail.specs.Propagation.{numbers_attached}
use Rattle.solver_trail.proofs.Forced.{propagates_none, propagates_two, held_more}
use Rattle.solver_trail.proofs.Kept.{kept_more}
use Rattle.solver_trail.proofs.Ahead.{IsAtWatch, ahead_few, at_watch, last_within, none_ahead}
use Rattle.solver_trail.proofs.Walk.{half_within, number_in, number_bounds, target_code, kept_step, walk_start, walk_step, walk_done}
use Rattle.solver_trail.proofs.propagation.visit_watches.Goals as goal
use Rattle.solver_trail.proofs.propagation.visit_watches.Goals.{After-visit_watch}

pub loop-init : goal.loop-init
loop-init c =
    let walk = walk_start c.requires.watches c.requires.listed c.args.lit c.requires.code in
    let few = ahead_few walk.ahead in
    record { walk = walk; few = omega (arith, few); size = refl; step = propagates_none c.args.set.now; trail = c.requires.trail; kept = λ visited reached le k. k }

-- ---- what is read

pub after-requires-clause-lit : goal.after-requires-clause-lit
after-requires-clause-lit c = let h = c.loop.invariant in omega (arith, c.requires.code, c.requires.watches.codes, h.walk.watches.codes, h.step.variables)

pub after-requires-clause-last : goal.after-requires-clause-last
after-requires-clause-last c = last_within c.loop.invariant.walk.ahead

pub visit_watch-requires-clause-watches : goal.visit_watch-requires-clause-watches
visit_watch-requires-clause-watches c = c.loop.invariant.walk.watches

pub visit_watch-requires-clause-within : goal.visit_watch-requires-clause-within
visit_watch-requires-clause-within c = (at_watch c.loop.invariant.walk.ahead c.in_ok-watch.watch (sym c.after.ensures ∙ c.in_ok-watch.was)).within

pub visit_watch-requires-clause-few : goal.visit_watch-requires-clause-few
visit_watch-requires-clause-few c = c.loop.invariant.walk.ahead.listed.few

at : (c : After-visit_watch) → IsAtWatch c.loop.invariant.walk.ahead c.in_ok-watch.watch
at c = at_watch c.loop.invariant.walk.ahead c.in_ok-watch.watch (sym c.after.ensures ∙ c.in_ok-watch.was)

-- ---- after a visit

found : (c : After-visit_watch)
    → (clause : Clause) × (numbered_clause c.args.pool.now.clauses (owner c.args.attached.now.long.items c.in_ok-watch.watch) ≡ Some clause)
found c =
    let b = number_bounds c.loop.invariant.walk.watches (at c).within in
    has_numbered c.args.pool.now.clauses (owner c.args.attached.now.long.items c.in_ok-watch.watch) b.0 b.1

still_false : (c : After-visit_watch) → Contains (assigned_literals c.visit_watch.new.set) (opposite c.args.lit)
still_false c = held_more (propagates_two c.loop.invariant.step c.visit_watch.ensures.set) (opposite c.args.lit) c.requires.lit

pub rewatch-last-requires-clause-at : goal.rewatch-last-requires-clause-at
rewatch-last-requires-clause-at c = sym c.after.ensures ∙ c.in_ok-watch.was

pub rewatch-last-requires-clause-lit : goal.rewatch-last-requires-clause-lit
rewatch-last-requires-clause-lit c = let h = c.loop.invariant in omega (arith, c.requires.code, c.requires.watches.codes, h.walk.watches.codes, h.step.variables)

pub rewatch-last-requires-clause-ahead : goal.rewatch-last-requires-clause-ahead
rewatch-last-requires-clause-ahead c = c.loop.invariant.walk.ahead

pub rewatch-last-requires-clause-target : goal.rewatch-last-requires-clause-target
rewatch-last-requires-clause-target c =
    let d = (goal.at.rewatch-last-requires-clause-target c).After-visit_watch in
    let f = found d in
    target_code c.loop.invariant.walk (at d) c.visit_watch.ensures.set c.visit_watch.ensures.trail (still_false d) f.0 f.1 c.in-Some.target (c.in-Some.ensures.target f.0 f.1)

pub loop-preserved : goal.loop-preserved
loop-preserved c =
    let d = (goal.at.loop-preserved c).After-visit_watch in
    let h = c.loop.invariant in
    let e = c.visit_watch.ensures in
    let f = found d in
    let false_now = still_false d in
    let target = c.in-Some.target in
    let t = c.in-Some.ensures.target f.0 f.1 in
    let r = c.rewatch-last.ensures in
    let passed = r.ahead h.walk.ahead in
    let w = walk_step h.walk (at d) e.set e.trail false_now f.0 f.1 target t r.literals r.firsts passed e.watches.reasons in
    let longer = ap length h.step.added ∙ length-append c.args.set.now.literals h.step.more in
    record {
      walk = w.0;
      few = omega (arith, h.few, ap length w.1);
      size = ap length r.literals ∙ (length-set (watched_literals c.loop.watches) c.in_ok-watch.watch target ∙ h.size);
      step = propagates_two h.step e.set;
      trail = e.trail;
      kept = λ visited reached le k.
          kept_step h.walk (at d) e.set e.trail false_now f.0 f.1 target t r.literals r.firsts passed visited reached (omega (arith, le, longer)) (h.kept visited reached le k);
    }

pub returns-clause-done : goal.returns-clause-done
returns-clause-done c = λ none.
    let h = c.loop.invariant in
    let rest : length h.walk.ahead.rest ≡ 0 = omega (arith, h.few, c.loop-test.false, c.len-end.ensures) in
    walk_done h.walk (nil_from_length h.walk.ahead.rest rest)

pub returns-in_err-watch-clause-done : goal.returns-in_err-watch-clause-done
returns-in_err-watch-clause-done c = λ none.
    let h = c.loop.invariant.walk in
    walk_done h (none_ahead h.ahead (sym c.after.ensures ∙ c.in_err-watch.was))

-- ---- at a false clause

pub index-requires : goal.index-requires
index-requires c =
    let d = (goal.at.index-requires c).After-visit_watch in
    omega (arith, half_within c.loop.invariant.walk.watches (at d).within, c.args.attached.now.long.ok.0)

pub returns-in-None-clause-set : goal.returns-in-None-clause-set
returns-in-None-clause-set c = propagates_two c.loop.invariant.step c.visit_watch.ensures.set

pub returns-in-None-clause-kept : goal.returns-in-None-clause-kept
returns-in-None-clause-kept c = λ visited reached le k.
    let h = c.loop.invariant in
    let longer = ap length h.step.added ∙ length-append c.args.set.now.literals h.step.more in
    kept_more c.visit_watch.ensures.set visited reached (watched_literals c.loop.watches) (omega (arith, le, longer)) (h.kept visited reached le k)

pub returns-in-None-clause-conflict : goal.returns-in-None-clause-conflict
returns-in-None-clause-conflict c =
    let d = (goal.at.returns-in-None-clause-conflict c).After-visit_watch in
    let w = c.loop.invariant.walk.watches in
    let number_is : c.index.result.now ≡ owner c.args.attached.now.long.items c.in_ok-watch.watch =
    get_or_read c.args.attached.now.long.items (c.in_ok-watch.watch / 2) c.index.result.now (half_within w (at d).within) c.index.ensures 0 in (
      subst (Contains (numbers_attached c.args.attached.now)) (sym number_is) (number_in w (at d).within),
      λ clause e. c.in-None.ensures.target clause (ap (numbered_clause c.args.pool.now.clauses) (sym number_is) ∙ e),
    )
