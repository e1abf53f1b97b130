use Rattle.std.proofs.Common.{◌∙◌, ◌<◌, ◌≤◌, length, sym, ap, subst, arith}
use Rattle.std.specs.Prelude.{All, Contains}
use Rattle.std.proofs.lemmas.List.Elements.{All-weaker, All-contains_itself}
use Rattle.clause_pool.specs.Literal.{Literal}
use Rattle.clause_pool.specs.LiteralCode.{code_of}
use Rattle.clause_pool.proofs.Literals.{code_within}
use Rattle.refute_check.specs.Index.{IsClauseNumber, list_at}
use Rattle.refute_check.specs.Propagation.{AreClausesSettled}
use Rattle.refute_check.proofs.AssignmentLemmas.{true_within}
use Rattle.refute_check.proofs.ClosureLemmas.{two_steps}
use Rattle.refute_check.proofs.SettledLemmas.{first_settled, turn, all_quiet}
use Rattle.refute_check.proofs.freshness.close.Goals as goal

pub visit-requires-clause-numbers : goal.visit-requires-clause-numbers
visit-requires-clause-numbers c =
    let count = length c.args.pool.now.clauses in
    let short = c.args.index.now.short.items in
    subst (All (IsClauseNumber count)) (sym c.as_slice.ensures.value) (All-weaker (Contains short) (IsClauseNumber count) c.requires.index.short_numbers short (All-contains_itself short))

pub loop-head-init : goal.loop-head-init
loop-head-init c =
    let clauses = c.args.pool.now.clauses in
    let index = c.args.index.now in
    record {
      assignment = c.visit.ensures.assignment;
      step = c.visit.ensures.step c.if-not-visit.false;
      inside = omega arith;
      looks = c.visit.ensures.looked c.if-not-visit.false;
      settled = c.visit.ensures.settled c.if-not-visit.false
          (subst (AreClausesSettled clauses c.args.held.now 0) (sym c.as_slice.ensures.value) (first_settled c.args.variables clauses index.lists index.short.items c.requires.index c.args.held.now c.requires.assignment));
    }

pub at-requires : goal.at-requires
at-requires c =
    let a = c.loop-head.held in
    let p = c.index.result.now in
    let here : c.loop-head.head < length a.trail.items = omega (arith, c.loop-head-test.true, c.len.ensures, a.trail.ok.0) in
    let inside = true_within a.values.items p (c.loop-head.invariant.assignment.held p (c.loop-head.head, here, sym c.index.ensures)) in
    let same = ap (λ (l : Literal). l.variable) c.opposite-falsified.ensures in
    let low : c.opposite-falsified.result.variable ≤ c.args.variables = omega (arith, inside, same, c.loop-head.invariant.step.size, c.requires.size) in
    let within = code_within c.opposite-falsified.result c.args.variables low in
    omega (arith, within, c.code.ensures, c.requires.index.places)

pub visit-requires-in-loop-head-clause-numbers : goal.visit-requires-in-loop-head-clause-numbers
visit-requires-in-loop-head-clause-numbers c =
    let count = length c.args.pool.now.clauses in
    let place = code_of c.opposite-falsified.result in
    let list = list_at c.args.index.now.lists place in
    rw (c.at.ensures, c.code.ensures) (All-weaker (Contains list) (IsClauseNumber count) (c.requires.index.numbers place) list (All-contains_itself list))

pub visit-requires-in-loop-head-clause-from : goal.visit-requires-in-loop-head-clause-from
visit-requires-in-loop-head-clause-from c = omega (arith, c.loop-head-test.true, c.len.ensures, c.loop-head.held.trail.ok.0)

pub returns-then-not-visit-2-clause-size : goal.returns-then-not-visit-2-clause-size
returns-then-not-visit-2-clause-size c = c.visit-in-loop-head.ensures.size ∙ c.loop-head.invariant.step.size

pub returns-then-not-visit-2-clause-room : goal.returns-then-not-visit-2-clause-room
returns-then-not-visit-2-clause-room c = c.visit-in-loop-head.ensures.room ∙ (c.loop-head.invariant.looks.room ∙ sym c.requires.looked.room)

pub returns-then-not-visit-2-clause-none : goal.returns-then-not-visit-2-clause-none
returns-then-not-visit-2-clause-none c = λ f set closure. c.visit-in-loop-head.ensures.none c.if-not-visit-2.true set (c.loop-head.invariant.step.closes set closure)

pub loop-head-preserved : goal.loop-head-preserved
loop-head-preserved c =
    let clauses = c.args.pool.now.clauses in
    let index = c.args.index.now in
    let a = c.loop-head.held in
    let head = c.loop-head.head in
    let new = c.visit-in-loop-head.new.held in
    let here : head < length a.trail.items = omega (arith, c.loop-head-test.true, c.len.ensures, a.trail.ok.0) in
    record {
      assignment = c.visit-in-loop-head.ensures.assignment;
      step = two_steps clauses c.args.at c.args.held.now.values.items a.values.items new.values.items c.loop-head.invariant.step (c.visit-in-loop-head.ensures.step c.if-not-visit-2.false);
      inside = omega (arith, here, c.visit-in-loop-head.ensures.longer);
      looks = c.visit-in-loop-head.ensures.looked c.if-not-visit-2.false;
      settled = c.visit-in-loop-head.ensures.settled c.if-not-visit-2.false
          (rw (c.at.ensures, c.code.ensures)
          (turn c.args.variables clauses index.lists index.short.items c.requires.index a head c.index.result.now c.opposite-falsified.result here c.index.ensures c.opposite-falsified.ensures c.loop-head.invariant.settled));
    }

pub returns-clause-quiet : goal.returns-clause-quiet
returns-clause-quiet c = λ t.
    let a = c.loop-head.held in
    let index = c.args.index.now in
    let done : length a.trail.items ≤ c.loop-head.head = omega (arith, c.loop-head-test.false, c.len.ensures, a.trail.ok.0) in
    all_quiet c.args.variables c.args.pool.now.clauses index.lists index.short.items c.requires.index a c.loop-head.head done c.loop-head.invariant.settled

pub returns-clause-room : goal.returns-clause-room
returns-clause-room c = c.loop-head.invariant.looks.room ∙ sym c.requires.looked.room

pub returns-then-not-visit-clause-none : goal.returns-then-not-visit-clause-none
returns-then-not-visit-clause-none c = λ f. c.visit.ensures.none c.if-not-visit.true

pub returns-then-not-visit-2-clause-step : goal.returns-then-not-visit-2-clause-step
returns-then-not-visit-2-clause-step c = λ t. cc
