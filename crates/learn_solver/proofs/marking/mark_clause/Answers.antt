use Rattle.std.proofs.Common.{◌≡◌, ◌∙◌, ℕ, ◌+◌, ◌<◌, length, set, get_or, ap, sym, subst, arith, eq-eqb}
use Rattle.std.specs.Prelude.{Bool, true, false, ◌==◌, IsTrue, ◌↔◌}
use Rattle.std.proofs.lemmas.Bool.{ne_eqb}
use Rattle.std.proofs.lemmas.List.{get_or_read}
use Rattle.net_model.specs.Answer.{bit_at}
use Rattle.std.proofs.lemmas.List.Elements.{Contains-get_or}
use Rattle.solver_trail.specs.Assignment.{no_literal}
use Rattle.clause_pool.specs.Literal.{Literal}
use Rattle.learn_solver.specs.Places.{set_literal_at}
use Rattle.learn_solver.proofs.Counts.{one_if}
use Rattle.learn_solver.proofs.MarkingSteps.{IsMarking, marking_again, marking_now, marking_all}
use Rattle.learn_solver.proofs.marking.mark_clause.Goals as goal
use Rattle.learn_solver.proofs.marking.mark_clause.Goals.{then-not-has+in_ok-add+then-is_present, then-not-has+in_ok-add+else-is_present, else-not-has}

-- the test of the present level, counted
counted_yes : (level present : ℕ) (b : Bool) → (IsTrue b ↔ (level ≡ present)) → b ≡ true → 1 ≡ one_if (level == present)
counted_yes level present b h e = sym (ap one_if (eq-eqb level present (h.0 e)))

counted_no : (level present : ℕ) (b : Bool) → (IsTrue b ↔ (level ≡ present)) → b ≡ false → 0 ≡ one_if (level == present)
counted_no level present b h e = sym (ap one_if (ne_eqb level present (λ same. let w : ◌≡◌ {A = Bool} true false = sym (h.1 same) ∙ e in cc)))

pub loop-lit-preserved : goal.loop-lit-preserved
loop-lit-preserved c =
    let a = c.args.trail.now.assignment in
    let old = c.args.marks.now in
    let new = c.loop-lit.marks in
    let clause = c.args.clause.now in
    let at = c.loop-lit.lit-index in
    let inv = c.loop-lit.invariant in
    let v = c.variable-variable.result in
    let within = c.loop-lit-test.true in
    let here = c.requires.inside at no_literal.literal within in
    let is : (get_or clause at no_literal.literal).variable ≡ v = ap (λ (l : Literal). l.variable) (sym (get_or_read clause at c.lit-item.result within c.lit-item.is no_literal.literal)) ∙ sym c.variable-variable.ensures.value in
    let room : v < length new = omega (arith, here.1, is, c.requires.places, inv.places) in
    elim c.if-not-has.branch [
      | then-not-has+in_ok-add+then-is_present w ↦
          let unmarked : bit_at new v ≡ false = sym c.has.ensures ∙ w.if-not-has.true in
          let more = marking_now a old new clause at c.loop-lit.opened inv within v is 1 c.requires.trail room unmarked (omega arith) (λ k h e. counted_yes (set_literal_at a k).level a.level w.is_present.result (w.is_present.ensures (set_literal_at a k) (Contains-get_or a.literals k no_literal h) e) w.if-is_present.true) in
          subst (λ ms. IsMarking a old ms clause (at + 1) c.if-not-has.opened) (sym (w.marks-is ∙ w.in_ok-add.ensures.ok)) (subst (IsMarking a old (set new v true) clause (at + 1)) (sym w.opened-is) more)
      | then-not-has+in_ok-add+else-is_present w ↦
          let unmarked : bit_at new v ≡ false = sym c.has.ensures ∙ w.if-not-has.true in
          let more = marking_now a old new clause at c.loop-lit.opened inv within v is 0 c.requires.trail room unmarked (omega arith) (λ k h e. counted_no (set_literal_at a k).level a.level w.is_present.result (w.is_present.ensures (set_literal_at a k) (Contains-get_or a.literals k no_literal h) e) w.if-is_present.false) in
          let none : c.loop-lit.opened + 0 ≡ c.if-not-has.opened = omega (arith, w.opened-is) in
          subst (λ ms. IsMarking a old ms clause (at + 1) c.if-not-has.opened) (sym (w.marks-is ∙ w.in_ok-add.ensures.ok)) (subst (IsMarking a old (set new v true) clause (at + 1)) none more)
      | else-not-has w ↦
          subst (λ ms. IsMarking a old ms clause (at + 1) c.if-not-has.opened) (sym w.marks-is) (subst (IsMarking a old new clause (at + 1)) (sym w.opened-is) (marking_again a old new clause at c.loop-lit.opened inv within v is (sym c.has.ensures ∙ w.if-not-has.false)))
    ]

pub returns : goal.returns
returns c =
    let all : c.loop-lit.lit-index ≡ length c.args.clause.now = omega (arith, c.loop-lit-test.false, c.loop-lit.auto.lit-index-end) in
    marking_all c.args.trail.now.assignment c.args.marks.now c.loop-lit.marks c.args.clause.now c.loop-lit.opened
    (subst (λ at. IsMarking c.args.trail.now.assignment c.args.marks.now c.loop-lit.marks c.args.clause.now at c.loop-lit.opened) all c.loop-lit.invariant)
