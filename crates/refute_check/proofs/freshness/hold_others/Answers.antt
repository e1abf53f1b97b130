use Rattle.std.proofs.Common.{◌≡◌, ◌≢◌, ◌∙◌, ◌+◌, ◌<◌, length, sym, ap, subst, arith, eq-eqb, eqb-true}
use Rattle.std.specs.Prelude.{Bool, Some, true, false, not}
use Rattle.std.proofs.lemmas.List.{length-set}
use Rattle.clause_pool.specs.Literal.{Literal, opposite}
use Rattle.clause_pool.specs.LiteralCode.{code_of}
use Rattle.clause_pool.proofs.Literals.{same_by_code}
use Rattle.refute_check.specs.declared.assignment.Assignment.{Assignment}
use Rattle.refute_check.specs.Assignment.{IsAssignment}
use Rattle.refute_check.specs.Held.{IsTrueAt, IsLiteralFalse, IsLiteralOpen}
use Rattle.refute_check.proofs.HeldLemmas.{hold, open_not_true, opposite_open}
use Rattle.refute_check.proofs.ClosureLemmas.{AreOthersFalseBefore, not_of_at, not_true, others_more, others_same}
use Rattle.refute_check.proofs.freshness.hold_others.Goals as goal
use Rattle.refute_check.proofs.freshness.hold_others.Goals.{in-Some-false, in-None}

pub loop-lit-preserved-then-eq : goal.loop-lit-preserved-then-eq
loop-lit-preserved-then-eq c =
    let clause = c.args.clause.now in
    let at = c.args.at in
    let l = c.lit-item.result in
    let k = c.loop-lit.lit-index in
    let old = c.loop-lit.invariant in
    let same = same_by_code l at (eqb-true (code_of l) (code_of at) (sym c.eq.ensures ∙ c.if-eq.true)) in
    record {
      assignment = old.assignment;
      size = old.size;
      others = others_same clause at k c.loop-lit.held.values.items old.others l c.loop-lit-test.true c.lit-item.is (λ other. absurd (other same));
    }

pub returns-then-variable-clause-none : goal.returns-then-variable-clause-none
returns-then-variable-clause-none c =
    let l = c.lit-item.result in
    let at = c.args.at in
    let other : l ≢ at = λ e. let wrong : ◌≡◌ {A = Bool} true false = sym (eq-eqb (code_of l) (code_of at) (ap code_of e)) ∙ (sym c.eq.ensures ∙ c.if-eq.false) in cc in
    λ f set holds.
    not_of_at c.args.clause.now at c.loop-lit.lit-index c.loop-lit.held.values.items c.loop-lit.invariant.others l c.loop-lit-test.true c.lit-item.is set holds other (sym c.variable.ensures.value ∙ (c.if-variable.true ∙ c.variable-in-loop-lit.ensures.value))

pub returns-in-Some-true-clause-none : goal.returns-in-Some-true-clause-none
returns-in-Some-true-clause-none c =
    let l = c.lit-item.result in
    let at = c.args.at in
    let other : l ≢ at = λ e. let wrong : ◌≡◌ {A = Bool} true false = sym (eq-eqb (code_of l) (code_of at) (ap code_of e)) ∙ (sym c.eq.ensures ∙ c.if-eq.false) in cc in
    let yes : IsTrueAt c.loop-lit.held.values.items l = sym c.value.ensures ∙ (c.in-Some-true.is ∙ ap Some c.in-Some-true.field-0-test) in
    λ f set holds. not_true c.args.clause.now at c.loop-lit.lit-index c.loop-lit.held.values.items c.loop-lit.invariant.others l c.loop-lit-test.true c.lit-item.is set holds other yes

pub loop-lit-preserved : goal.loop-lit-preserved
loop-lit-preserved c =
    let clause = c.args.clause.now in
    let at = c.args.at in
    let l = c.lit-item.result in
    let k = c.loop-lit.lit-index in
    let old = c.loop-lit.held in
    let values = old.values.items in
    let apart : l.variable ≢ at.variable = λ e. c.if-variable.false (c.variable.ensures.value ∙ (e ∙ sym c.variable-in-loop-lit.ensures.value)) in
    let inside : l.variable < length c.args.held.now.values.items = subst (λ (m : Literal). m.variable < length c.args.held.now.values.items) (sym c.lit-item.is) (c.requires.clause k l c.loop-lit-test.true) in
    let within : l.variable < length values = omega (arith, inside, c.loop-lit.invariant.size) in
    elim c.match-value.branch [
      | in-Some-false w ↦
          let no : IsLiteralFalse values l = sym c.value.ensures ∙ (w.in-Some-false.is ∙ ap Some w.in-Some-false.field-0-test) in
          record {
            assignment = subst IsAssignment (sym w.held-is) c.loop-lit.invariant.assignment;
            size = ap (λ (a : Assignment). length a.values.items) w.held-is ∙ c.loop-lit.invariant.size;
            others = subst (λ (a : Assignment). AreOthersFalseBefore clause at (k + 1) a.values.items) (sym w.held-is) (others_same clause at k values c.loop-lit.invariant.others l c.loop-lit-test.true c.lit-item.is (λ other. no));
          }
      | in-None w ↦
          let open_yet : IsLiteralOpen values l = sym c.value.ensures ∙ w.in-None.is in
          let now : c.match-value.held.values.items ≡ hold values (opposite l) = ap (λ (a : Assignment). a.values.items) w.held-is ∙ (w.hold.ensures.values ∙ ap (hold values) w.opposite.ensures) in
          record {
            assignment = subst IsAssignment (sym w.held-is) w.hold.ensures.assignment;
            size = ap length now ∙ (length-set values l.variable (Some (not l.positive)) ∙ c.loop-lit.invariant.size);
            others = subst (AreOthersFalseBefore clause at (k + 1)) (sym now) (others_more clause at k values c.loop-lit.invariant.others l c.loop-lit-test.true c.lit-item.is apart (open_not_true values l open_yet) within);
          }
    ]

pub hold-requires-clause-undetermined : goal.hold-requires-clause-undetermined
hold-requires-clause-undetermined c =
    let values = c.loop-lit.held.values.items in
    subst (IsLiteralOpen values) (sym c.opposite.ensures) (opposite_open values c.lit-item.result (sym c.value.ensures ∙ c.in-None.is))
