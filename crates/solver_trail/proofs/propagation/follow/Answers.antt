use Rattle.std.proofs.Common.{◌≡◌, ◌∙◌, ◌+◌, length, ap, arith, length-append}
use Rattle.solver_trail.proofs.Held.{length-literals_of}
use Rattle.solver_trail.proofs.Forced.{propagates_none, propagates_two}
use Rattle.solver_trail.proofs.propagation.follow.Goals as goal

pub returns-in-Some-clause-set : goal.returns-in-Some-clause-set
returns-in-Some-clause-set c = propagates_two c.loop-place.invariant.step c.visit_list.ensures.set

pub returns-in-Some-clause-kept : goal.returns-in-Some-clause-kept
returns-in-Some-clause-kept c = λ k. c.in-Some.ensures.kept c.args.place.now c.loop-place.invariant.above (c.loop-place.invariant.kept k)

pub loop-place-preserved : goal.loop-place-preserved
loop-place-preserved c =
    let h = c.loop-place.invariant in
    let e = c.visit_list.ensures in
    let longer : length c.visit_list.new.set.literals ≡ length c.loop-place.set.literals + length e.set.more = ap length e.set.added ∙ length-append c.loop-place.set.literals e.set.more in
    record {
      step = propagates_two h.step e.set;
      trail = e.trail;
      watches = e.watches;
      listed = e.listed;
      above = omega (arith, h.above);
      below = omega (arith, longer, c.loop-place-test.true, ap length c.literals.ensures.literals, length-literals_of c.loop-place.set.literals);
      kept = λ k. c.in-None.ensures.kept c.args.place.now h.above (h.kept k);
    }

pub loop-place-init : goal.loop-place-init
loop-place-init c =
    let h = c.requires in
    record { step = propagates_none c.args.set.now; trail = h.trail; watches = h.watches; listed = h.listed; above = omega arith; below = h.place; kept = λ k. k }

pub visit_list-requires-clause-place : goal.visit_list-requires-clause-place
visit_list-requires-clause-place c = omega (arith, c.loop-place-test.true, ap length c.literals.ensures.literals, length-literals_of c.loop-place.set.literals)

pub loop-place-smaller : goal.loop-place-smaller
loop-place-smaller c =
    let set = c.loop-place.set in
    omega (arith, c.loop-place-test.true, ap length c.literals.ensures.literals, length-literals_of set.literals, c.loop-place.invariant.trail.few, c.visit_list.ensures.set.variables)

pub returns-in-Some-clause-below : goal.returns-in-Some-clause-below
returns-in-Some-clause-below c =
    let e = c.visit_list.ensures in
    omega (arith, c.loop-place.invariant.below, ap length e.set.added, length-append c.loop-place.set.literals e.set.more)

pub returns-clause-done : goal.returns-clause-done
returns-clause-done c = λ none.
    let all = c.loop-place-test.false in
    omega (arith, all, c.loop-place.invariant.below, ap length c.literals.ensures.literals, length-literals_of c.loop-place.set.literals)
