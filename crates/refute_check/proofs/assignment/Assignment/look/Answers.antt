use Rattle.std.proofs.Common.{◌≡◌, ◌≢◌, ◌∙◌, ◌<◌, length, get_or, sym, ap, subst, arith, eq-eqb}
use Rattle.std.specs.Prelude.{Bool, Some, true, false}
use Rattle.std.proofs.lemmas.List.{get_or_default}
use Rattle.clause_pool.specs.LiteralCode.{code_of}
use Rattle.refute_check.specs.Held.{IsLiteralFalse, IsLiteralOpen, satisfied, two_open}
use Rattle.refute_check.proofs.HeldLemmas.{IsSoFar}
use Rattle.refute_check.proofs.assignment.Assignment.look.Goals as goal

pub returns-in-Some-true : goal.returns-in-Some-true
returns-in-Some-true c =
    let l = c.index-clause-place.result in
    satisfied l (c.loop-place.place, c.loop-place-test.true, sym c.index-clause-place.is) (sym c.in-Some-true.ensures ∙ ap Some c.in-Some-true.field-0-test)

pub returns-in-Some-2 : goal.returns-in-Some-2
returns-in-Some-2 c =
    let values = c.args.self.now.values.items in
    let clause = c.args.clause.now in
    let place = c.loop-place.place in
    let first = c.in-Some.first in
    let l = c.index-clause-place.result in
    let m = c.index-clause-first.result in
    let one = subst (IsSoFar values clause place) c.in-Some.is c.loop-place.invariant in
    let is_m : get_or clause first m ≡ m = sym c.index-clause-first.is in
    let differ : m ≢ l = λ e. let wrong : ◌≡◌ {A = Bool} true false = sym (eq-eqb (code_of m) (code_of l) (ap code_of e)) ∙ (sym c.eq.ensures ∙ c.if-eq.false) in cc in
    two_open m l differ (first, omega (arith, one.inside, c.loop-place-test.true), is_m) (place, c.loop-place-test.true, sym c.index-clause-place.is) (subst (IsLiteralOpen values) is_m (one.is_open m)) (sym c.in-None.ensures)

pub returns-in-Some-unit : goal.returns-in-Some-unit
returns-in-Some-unit c =
    let values = c.args.self.now.values.items in
    let clause = c.args.clause.now in
    let place = c.in-Some-unit.place in
    let one = subst (IsSoFar values clause c.loop-place.place) c.in-Some-unit.is c.loop-place.invariant in
    let inside : place < length clause = omega (arith, one.inside, c.loop-place.auto.place-end) in (
      inside,
      λ d. record {
        inside = (place, inside, get_or_default clause place (get_or clause place d) d inside);
        is_open = one.is_open d;
        others = λ l m other. subst (IsLiteralFalse values) m.2 (one.others m.0 l (omega (arith, m.1, c.loop-place-test.false)) (λ same. other (sym m.2 ∙ (same ∙ get_or_default clause place l d inside))));
      },
    )
