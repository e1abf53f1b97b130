use Rattle.std.proofs.Common.{◌∙◌, ◌<◌, get_or, inl, inr, sym, subst, arith}
use Rattle.std.specs.Prelude.{All}
use Rattle.std.proofs.lemmas.List.{get_or_default}
use Rattle.clause_pool.specs.Literal.{Literal}
use Rattle.refute_check.proofs.SettledLemmas.{seen_none, seen_skipped, seen_settled, seen_all, more_longer, more_size}
use Rattle.refute_check.proofs.freshness.visit.Goals as goal

pub loop-number-init : goal.loop-number-init
loop-number-init c = seen_none c.args.pool.now.clauses c.args.at c.args.numbers.now c.args.from c.args.held.now c.args.looked.now c.requires.assignment c.requires.looked c.requires.at

pub since-requires : goal.since-requires
since-requires c = omega (arith, (c.requires.numbers c.loop-number.number-index 0 c.loop-number-test.true).1, c.loop-number.invariant.looks.room)

pub settle-requires-clause-pool : goal.settle-requires-clause-pool
settle-requires-clause-pool c = subst (λ size. All (All (λ (l : Literal). l.variable < size)) c.args.pool.now.clauses) (sym c.loop-number.invariant.step.size) c.requires.pool

pub settle-requires-clause-number : goal.settle-requires-clause-number
settle-requires-clause-number c = c.requires.numbers c.loop-number.number-index 0 c.loop-number-test.true

pub note-requires : goal.note-requires
note-requires c = omega (arith, (c.requires.numbers c.loop-number.number-index 0 c.loop-number-test.true).1, c.loop-number.invariant.looks.room)

pub returns-then-not-settle-clause-size : goal.returns-then-not-settle-clause-size
returns-then-not-settle-clause-size c = more_size c.loop-number.held c.settle.new.held c.settle.ensures.more ∙ c.loop-number.invariant.step.size

pub returns-then-not-settle-clause-longer : goal.returns-then-not-settle-clause-longer
returns-then-not-settle-clause-longer c = omega (arith, c.loop-number.invariant.longer, more_longer c.loop-number.held c.settle.new.held c.settle.ensures.more)

pub returns-then-not-settle-clause-room : goal.returns-then-not-settle-clause-room
returns-then-not-settle-clause-room c = c.loop-number.invariant.looks.room ∙ sym c.requires.looked.room

pub returns-then-not-settle-clause-earlier : goal.returns-then-not-settle-clause-earlier
returns-then-not-settle-clause-earlier c = λ number s there. omega (arith, c.loop-number.invariant.looks.earlier number s there, more_longer c.loop-number.held c.settle.new.held c.settle.ensures.more)

pub returns-then-not-settle-clause-none : goal.returns-then-not-settle-clause-none
returns-then-not-settle-clause-none c = λ f set closure. c.settle.ensures.none c.if-not-settle.true set (c.loop-number.invariant.step.closes set closure)

pub loop-number-preserved-then-since : goal.loop-number-preserved-then-since
loop-number-preserved-then-since c =
    let numbers = c.args.numbers.now in
    let i = c.loop-number.number-index in
    let n = get_or numbers i 0 in
    let told = c.since.ensures c.if-since.true in
    seen_skipped c.args.pool.now.clauses c.args.at numbers c.args.from i n c.loop-number-test.true (get_or_default numbers i 0 n c.loop-number-test.true) c.args.held.now c.loop-number.held c.loop-number.looked told.0 c.loop-number.invariant told.1 told.2

pub loop-number-preserved : goal.loop-number-preserved
loop-number-preserved c =
    let numbers = c.args.numbers.now in
    let i = c.loop-number.number-index in
    let n = get_or numbers i 0 in
    let after = c.settle.new.held in
    let settled = c.if-not-settle.false in
    seen_settled c.args.pool.now.clauses c.args.at numbers c.args.from i n c.loop-number-test.true (get_or_default numbers i 0 n c.loop-number-test.true)
    c.args.held.now c.loop-number.held after c.loop-number.looked c.note.new.self c.loop-number.invariant c.settle.ensures.more (c.settle.ensures.quiet settled)
    c.settle.ensures.assignment (c.settle.ensures.step settled) c.requires.from c.note.ensures.room
    (λ other s now. elim (c.note.ensures.noted other s now) [ inl was ↦ inl was | inr here ↦ inr (here.0, omega (arith, here.1, c.len.ensures, after.trail.ok.0)) ])

pub returns-clause-room : goal.returns-clause-room
returns-clause-room c = c.loop-number.invariant.looks.room ∙ sym c.requires.looked.room

pub returns-clause-settled : goal.returns-clause-settled
returns-clause-settled c = λ t settled.
    seen_all c.args.pool.now.clauses c.args.at c.args.numbers.now c.args.from c.loop-number.number-index c.args.held.now c.loop-number.held c.loop-number.looked c.loop-number-test.false c.loop-number.invariant settled
