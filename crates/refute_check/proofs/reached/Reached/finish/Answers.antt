use Rattle.std.proofs.Common.{◌≡◌, ◌∙◌, [], length, refl, sym, ap, subst, arith}
use Rattle.std.proofs.lemmas.List.{length_push, nil_from_length}
use Rattle.net_model.proofs.Elements.{none_in}
use Rattle.pair_miter.proofs.SameLiterals.{same_trans}
use Rattle.refute_check.proofs.ReachedLemmas.{IsTaken, taken_none, taken_skip, taken_kept, taken_all, taken_empty}
use Rattle.refute_check.proofs.reached.Reached.finish.Goals as goal

pub loop-lit-init : goal.loop-lit-init
loop-lit-init c = λ clause is. subst (IsTaken clause c.args.self.now) (sym c.new-kept.ensures.items) (taken_none clause c.args.self.now is)

pub loop-lit-preserved-then-not-has : goal.loop-lit-preserved-then-not-has
loop-lit-preserved-then-not-has c = λ clause is.
    taken_skip clause c.loop-lit.self c.loop-lit.kept.items c.pop.new.self.items c.in-Some.lit (c.loop-lit.invariant clause is) c.in-Some.ensures.items (record { marks = c.loop-lit.self.marks; listed = c.pop.new.self }) refl refl (sym c.has.ensures ∙ c.if-not-has.true)

pub loop-lit-preserved : goal.loop-lit-preserved
loop-lit-preserved c = λ clause is.
    taken_kept clause c.loop-lit.self c.loop-lit.kept.items c.pop.new.self.items c.in-Some.lit (c.loop-lit.invariant clause is) c.in-Some.ensures.items c.remove.new.self c.push.new.self.items c.remove.ensures.marks c.remove.ensures.listed c.in_ok-push.ensures.items (sym c.has.ensures ∙ c.if-not-has.false)

pub returns-clause-ended : goal.returns-clause-ended
returns-clause-ended c = λ clause is.
    let none : c.loop-lit.self.listed.items ≡ [] = nil_from_length c.loop-lit.self.listed.items (omega (arith, c.in_default.ensures.cases, c.loop-lit.self.listed.ok.0)) in
    same_trans c.of.result.literals c.loop-lit.kept.items clause c.of.ensures.literals (taken_all clause c.loop-lit.self c.loop-lit.kept.items (c.loop-lit.invariant clause is) none)

pub returns-clause-empty : goal.returns-clause-empty
returns-clause-empty c = λ clause is.
    let none : c.loop-lit.self.listed.items ≡ [] = nil_from_length c.loop-lit.self.listed.items (omega (arith, c.in_default.ensures.cases, c.loop-lit.self.listed.ok.0)) in
    let left = taken_empty clause c.loop-lit.self c.loop-lit.kept.items (c.loop-lit.invariant clause is) none in
    record { marked = left.marked; only = left.only; listed = λ l m. absurd (none_in l m) }

pub loop-lit-smaller-then-not-has : goal.loop-lit-smaller-then-not-has
loop-lit-smaller-then-not-has c = omega (arith, ap length c.in-Some.ensures.items, length_push c.pop.new.self.items c.in-Some.lit)

pub loop-lit-smaller : goal.loop-lit-smaller
loop-lit-smaller c = omega (arith, ap length c.remove.ensures.listed, ap length c.in-Some.ensures.items, length_push c.pop.new.self.items c.in-Some.lit)
