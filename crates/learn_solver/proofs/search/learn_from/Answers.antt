use Rattle.std.proofs.Common.{◌≡◌, ◌≢◌, ◌∙◌, ◌<◌, [], length, get_or, refl, ap, sym, subst, arith, eqb-true}
use Rattle.std.specs.Prelude.{vec_len}
use Rattle.std.proofs.lemmas.Bool.{eqb-false}
use Rattle.std.proofs.lemmas.List.{nil_from_length}
use Rattle.pair_miter.specs.Fresh.{IsFresh}
use Rattle.pair_miter.specs.Log.{EndsFresh}
use Rattle.learn_solver.specs.Learned.{IsAsserting}
use Rattle.learn_solver.proofs.LearnSteps.{learned_fresh, quiet_below}
use Rattle.net_model.proofs.Errors.{on_error}
use Rattle.learn_solver.proofs.Solving.{ends_named, learned_above, learned_within, named_at, refutes}
use Rattle.learn_solver.proofs.search.learn_from.Goals as goal

pub returns-then-is_empty-clause-learned : goal.returns-then-is_empty-clause-learned
returns-then-is_empty-clause-learned c = λ first conflicts learning few.
    let learned = c.in_ok-learned.learned in
    let is = c.in_ok-learned.ensures.learned in
    let none : length learned.clause.items ≡ 0 = omega (arith, eqb-true (vec_len learned.clause) 0 (sym c.is_empty.ensures ∙ c.if-is_empty.true), learned.clause.ok.0) in (
      refutes first c.args.pool.now.clauses c.args.search.now.chains.items learning learned.chain learned.clause.items is.ends_in is.bare (nil_from_length learned.clause.items none) conflicts few,
      learned_within first c.args.pool.now.clauses c.args.search.now.chains.items conflicts learning few,
    )

pub add-requires-clause-prepared : goal.add-requires-clause-prepared
add-requires-clause-prepared c = record {
  ready = c.requires.prepared.ready;
  decider = c.requires.prepared.decider;
  clear = c.in_ok-learned.ensures.clear;
}

-- the learned clause has literals, so it is asserting
asserts : (c : goal.After-as_slice) → IsAsserting c.args.search.now.trail.assignment c.in_ok-learned.learned.back c.in_ok-learned.learned.clause.items
asserts c =
    let learned = c.in_ok-learned.learned in
    let a = c.args.search.now.trail.assignment in
    let is = c.in_ok-learned.ensures.learned in
    let nonempty = eqb-false (vec_len learned.clause) 0 (sym c.is_empty.ensures ∙ c.if-is_empty.false) in
    is.asserting (learned_above a c.args.pool.now.clauses learned.chain learned.clause.items learned.back is (omega (arith, nonempty, learned.clause.ok.0)))

pub add-requires-clause-ends : goal.add-requires-clause-ends
add-requires-clause-ends c = rw (c.set_at.ensures, c.as_slice.ensures.value) (ends_named c.args.pool.now.clauses c.in_ok-learned.learned.chain c.index.result.now c.in_ok-learned.learned.clause.items c.in_ok-learned.ensures.learned.ends_in)

pub add-requires-clause-quiet : goal.add-requires-clause-quiet
add-requires-clause-quiet c = rw c.as_slice.ensures.value (quiet_below c.args.search.now.trail.assignment c.requires.prepared.ready.is_trail c.in_ok-learned.learned.clause.items c.in_ok-learned.learned.back (asserts c) c.in_ok-learned.ensures.learned.once)

-- the clause is fresh at its first literal
fresh_end : (c : goal.After-as_slice) → EndsFresh c.args.pool.now.clauses (named_at c.in_ok-learned.learned.chain c.index.result.now) c.in_ok-learned.learned.clause.items
fresh_end c =
    let pool = c.args.pool.now.clauses in
    let a = c.args.search.now.trail.assignment in
    let ready = c.requires.prepared.ready in
    let learned = c.in_ok-learned.learned in
    let clause = learned.clause.items in
    let x = c.index.result.now in
    let is = asserts c in
    let nonempty : clause ≢ [] = λ none. eqb-false (vec_len learned.clause) 0 (sym c.is_empty.ensures ∙ c.if-is_empty.false) (omega (arith, ap length none, learned.clause.ok.0)) in
    let same : is.asserting ≡ x = sym (ap (λ ls. get_or ls 0 x) is.is) ∙ sym c.index.ensures in
    record { nonempty = nonempty; at = x; is_at = refl; fresh = subst (IsFresh pool clause) same (learned_fresh a ready.is_trail clause learned.back is pool ready.quiet) }

pub add-requires-clause-fresh : goal.add-requires-clause-fresh
add-requires-clause-fresh c = rw (c.set_at.ensures, c.as_slice.ensures.value) (fresh_end c)

pub returns-in_err-learned-clause-err : goal.returns-in_err-learned-clause-err
returns-in_err-learned-clause-err c = on_error c.from_residual.result (λ first conflicts learning few.
    learned_within first c.args.pool.now.clauses c.args.search.now.chains.items conflicts learning (omega (arith, few)))
