use Rattle.std.proofs.Common.{◌≡◌, ◌≢◌, ◌∙◌, ◌++◌, take, sym, ap, subst}
use Rattle.std.specs.Prelude.{Bool, true, false}
use Rattle.std.proofs.lemmas.List.{append-nil, take_all}
use Rattle.std.proofs.lemmas.Bool.{eqb-true, eq-eqb}
use Rattle.clause_pool.specs.Literal.{Literal}
use Rattle.clause_pool.specs.LiteralCode.{code_of}
use Rattle.clause_pool.specs.Clauses.{Clause}
use Rattle.clause_pool.proofs.Literals.{same_by_code}
use Rattle.pair_miter.specs.Resolution.{clause_without, resolvent}
use Rattle.refute_check.specs.Reached.{IsReached}
use Rattle.refute_check.proofs.HeldLemmas.{contained}
use Rattle.refute_check.proofs.Resolvents.{next_same, next_more, cannot_other, not_contained}
use Rattle.refute_check.proofs.ReachedLemmas.{reached_without, can_from, cannot_mark}
use Rattle.refute_check.proofs.reached.Reached.resolve.Goals as goal

pub loop-lit-init : goal.loop-lit-init
loop-lit-init c = λ clause is. subst (IsReached c.remove.new.self) (sym (append-nil clause)) is

pub returns-then-not-has-clause-no_pivot : goal.returns-then-not-has-clause-no_pivot
returns-then-not-has-clause-no_pivot c = λ e clause is. cannot_mark c.args.self.now clause c.args.other.now c.args.pivot is (sym c.has.ensures ∙ c.if-not-has.true)

pub returns-then-not-contains-clause-no_pivot : goal.returns-then-not-contains-clause-no_pivot
returns-then-not-contains-clause-no_pivot c = λ e clause is.
    let none = not_contained c.args.other.now c.opposite-opposite.result c.contains.result c.contains.ensures.cases c.if-not-contains.true in
    cannot_other clause c.args.other.now c.args.pivot (rw c.opposite-opposite.ensures at none)

pub loop-lit-preserved-then-eq : goal.loop-lit-preserved-then-eq
loop-lit-preserved-then-eq c = λ clause is.
    let o = c.opposite-opposite.result in
    let lit = c.lit-item.result in
    let same : lit ≡ o = same_by_code lit o (eqb-true (code_of lit) (code_of o) (sym c.eq.ensures ∙ c.if-eq.true)) in
    subst (IsReached c.loop-lit.self) (next_same clause c.args.other.now o lit c.loop-lit.lit-index c.loop-lit-test.true c.lit-item.is same) (c.loop-lit.invariant clause is)

pub loop-lit-preserved : goal.loop-lit-preserved
loop-lit-preserved c = λ clause is.
    let o = c.opposite-opposite.result in
    let lit = c.lit-item.result in
    let i = c.loop-lit.lit-index in
    let other : lit ≢ o = λ e. let wrong : ◌≡◌ {A = Bool} true false = sym (eq-eqb (code_of lit) (code_of o) (ap code_of e)) ∙ (sym c.eq.ensures ∙ c.if-eq.false) in cc in
    subst (IsReached c.add.new.self) (next_more clause c.args.other.now o lit i c.loop-lit-test.true c.lit-item.is other) (c.in_ok-add.ensures (clause ++ clause_without o (take i c.args.other.now)) (c.loop-lit.invariant clause is))

pub returns-clause-resolved : goal.returns-clause-resolved
returns-clause-resolved c = λ clause is.
    let pivot = c.args.pivot in
    let other = c.args.other.now in
    let o = c.opposite-opposite.result in
    let inside = contained other o c.contains.result c.contains.ensures.cases c.if-not-contains.false in
    let without = reached_without c.args.self.now c.remove.new.self clause pivot is c.remove.ensures.marks c.remove.ensures.listed in
    let all : clause_without pivot clause ++ clause_without o (take c.loop-lit.lit-index other) ≡ resolvent pivot clause other =
    ap (λ (ls : Clause). clause_without pivot clause ++ clause_without o ls) (take_all c.loop-lit.lit-index other c.loop-lit-test.false) ∙ ap (λ (l : Literal). clause_without pivot clause ++ clause_without l other) c.opposite-opposite.ensures in
    (can_from c.args.self.now clause other pivot is (sym c.has.ensures ∙ c.if-not-has.false) (rw c.opposite-opposite.ensures at inside), subst (IsReached c.loop-lit.self) all (c.loop-lit.invariant (clause_without pivot clause) without))
