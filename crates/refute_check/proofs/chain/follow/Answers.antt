use Rattle.std.proofs.Common.{◌≡◌, ◌∙◌, ◌<◌, ℕ, List, Bool, true, false, length, get_or, sym, ap, rules, arith}
use Rattle.clause_pool.specs.Literal.{Literal}
use Rattle.pair_miter.specs.Resolution.{resolvent}
use Rattle.pair_miter.proofs.SameLiterals.{same_refl, same_trans}
use Rattle.evidence_rules.proofs.Steps.{ends_first, ends_more, ends_last, stops_unnamed, stops_unresolved}
use Rattle.refute_check.proofs.chain.follow.Goals as goal

next_step : (at : ℕ) {items steps : List (Literal × ℕ)} {step : Literal × ℕ} → items ≡ steps → at < length items → step ≡ get_or items at step → (at < length steps) × (step ≡ get_or steps at step)
next_step at {step = step} same inside is = (omega (arith, inside, ap length same), is ∙ ap (λ ss. get_or ss at step) same)

pub loop-pivot-init : goal.loop-pivot-init
loop-pivot-init c =
    let start = c.in-Some.start.now in
    (start, ends_first c.args.pool.now.clauses c.args.chain.now start start (search rules) (same_refl start), c.in_ok-begin.ensures)

pub returns-in_default-named-clause-no_clause : goal.returns-in_default-named-clause-no_clause
returns-in_default-named-clause-no_clause c = λ _.
    let next = next_step c.loop-pivot.pivot-index c.steps-pivot-items.ensures c.loop-pivot-test.true c.loop-pivot-item.is in
    stops_unnamed c.args.pool.now.clauses c.args.chain.now c.loop-pivot.pivot-index c.loop-pivot-item.result c.loop-pivot.invariant.0 next.0 next.1 c.loop-pivot.invariant.1 c.in_default-named.ensures

pub returns-in_err-resolve-clause-no_pivot : goal.returns-in_err-resolve-clause-no_pivot
returns-in_err-resolve-clause-no_pivot c = λ e.
    let next = next_step c.loop-pivot.pivot-index c.steps-pivot-items.ensures c.loop-pivot-test.true c.loop-pivot-item.is in
    let cannot = c.in_err-resolve.ensures.no_pivot (search rules) c.loop-pivot.invariant.0 c.loop-pivot.invariant.2 in
    stops_unresolved c.args.pool.now.clauses c.args.chain.now c.loop-pivot.pivot-index c.loop-pivot-item.result c.loop-pivot.invariant.0 c.in-Some-named.other.now next.0 next.1 c.loop-pivot.invariant.1 c.in-Some-named.ensures cannot

pub loop-pivot-preserved : goal.loop-pivot-preserved
loop-pivot-preserved c =
    let at = c.loop-pivot.pivot-index in
    let clause = c.loop-pivot.invariant.0 in
    let step = c.loop-pivot-item.result in
    let other = c.in-Some-named.other.now in
    let new = resolvent step.0 clause other in
    let next = next_step c.loop-pivot.pivot-index c.steps-pivot-items.ensures c.loop-pivot-test.true c.loop-pivot-item.is in
    let told = c.in_ok-resolve.ensures.resolved clause c.loop-pivot.invariant.2 in
    (new, ends_more c.args.pool.now.clauses c.args.chain.now at step clause new other next.0 next.1 c.loop-pivot.invariant.1 c.in-Some-named.ensures (λ cannot. let wrong : ◌≡◌ {A = Bool} true false = sym told.0 ∙ cannot in cc) (same_refl new), told.1)

pub returns-clause-ended : goal.returns-clause-ended
returns-clause-ended c =
    let clause = c.loop-pivot.invariant.0 in
    let last = ends_last c.args.pool.now.clauses c.args.chain.now c.loop-pivot.pivot-index clause (omega (arith, c.loop-pivot-test.false, ap length c.steps-pivot-items.ensures)) c.loop-pivot.invariant.1 in
    (last.0, last.1, same_trans c.in_ok-finish.field-0.literals clause last.0 (c.in_ok-finish.ensures.ended clause c.loop-pivot.invariant.2) last.2)

pub returns-clause-empty : goal.returns-clause-empty
returns-clause-empty c = c.in_ok-finish.ensures.empty c.loop-pivot.invariant.0 c.loop-pivot.invariant.2
