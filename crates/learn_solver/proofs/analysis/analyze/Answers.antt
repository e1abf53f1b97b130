use Rattle.std.proofs.lemmas.Result.{IfOk-from_err}
use Rattle.learn_solver.specs.declared.analysis.Learned.{Learned}
use Rattle.learn_solver.specs.Learned.{IsLearned}
use Rattle.std.proofs.Common.{◌≡◌, ◌∙◌, ℕ, ◌<◌, ◌≤◌, length, get_or, ap, sym, subst, arith}
use Rattle.std.specs.Prelude.{List, [], Option, Some}
use Rattle.std.proofs.lemmas.List.{length-map}
use Rattle.clause_pool.specs.Literal.{Literal}
use Rattle.clause_pool.specs.Clauses.{Clause}
use Rattle.solver_trail.specs.declared.set_literals.SetLiteral.{SetLiteral}
use Rattle.learn_solver.specs.Marks.{MarksClause}
use Rattle.learn_solver.specs.Places.{set_literal_at, IsFalseAt}
use Rattle.learn_solver.specs.Walk.{IsTrailWalk}
use Rattle.learn_solver.proofs.WalkEnds.{walk_start, walk_over, clear_end, learned_end}
use Rattle.learn_solver.proofs.analysis.analyze.Goals as goal
use Rattle.learn_solver.proofs.analysis.analyze.Goals.{then-loop-place-test+else-not-are_clear, else-loop-place-test}

pub loop-place-init : goal.loop-place-init
loop-place-init c =
    let trail = c.args.trail.now in
    let clauses = c.args.pool.now.clauses in
    let conflict = c.requires.conflict in
    let opened = c.in_ok-mark_clause.field-0 in
    let same : c.get.result.now ≡ conflict.clause = (let e : ◌≡◌ {A = Option Clause} (Some c.get.result.now) (Some conflict.clause) = sym c.get.ensures ∙ conflict.numbered in cc) in
    let start = walk_start trail clauses c.requires.ready c.args.conflict conflict c.args.marks.now c.mark_clause.new.marks opened c.requires.clear
    (subst (λ k. MarksClause trail.assignment c.args.marks.now c.mark_clause.new.marks k opened) same c.in_ok-mark_clause.ensures) in
    let long : length trail.assignment.literals ≡ length c.set_literals-place.result.now = sym (ap length c.set_literals-place.ensures.literals ∙ length-map trail.assignment.literals (λ (s : SetLiteral). s.literal)) in
    subst (λ n. IsTrailWalk trail.assignment clauses c.mark_clause.new.marks c.new.result c.new-2.result.items opened n) long
    (subst (λ ls. IsTrailWalk trail.assignment clauses c.mark_clause.new.marks c.new.result ls opened (length trail.assignment.literals)) (sym c.new-2.ensures.items)
    (subst (λ x. IsTrailWalk trail.assignment clauses c.mark_clause.new.marks x [] opened (length trail.assignment.literals)) (sym c.new.ensures) start))

-- ---- the end

pub returns : goal.returns
returns c =
    let a = c.args.trail.now.assignment in
    let clauses = c.args.pool.now.clauses in
    let l = c.loop-place in
    let kept = l.analysis.kept.items in
    let over : IsTrailWalk a clauses l.marks l.analysis.chain kept l.analysis.left 0 = elim c.loop-place-test.branch [
      | then-loop-place-test+else-not-are_clear w ↦ walk_over a clauses l.marks l.analysis.chain kept l.analysis.left l.place (w.are_clear.ensures w.if-not-are_clear.false) l.invariant
      | else-loop-place-test w ↦ let none : l.place ≡ 0 = omega (arith, w.loop-place-test.false) in subst (IsTrailWalk a clauses l.marks l.analysis.chain kept l.analysis.left) none l.invariant
    ] in
    let value = c.as_slice.ensures.value in
    record {
      learned =
          learned_end a c.requires.ready.is_trail clauses l.marks l.analysis.chain kept l.analysis.left over c.back_level-back.result
          (subst (λ (ls : List Literal). length ls ≤ 1 → c.back_level-back.result ≡ 0) value c.back_level-back.ensures.none)
          (subst (λ (ls : List Literal). (d : Literal) (place : ℕ) → 1 < length ls → IsFalseAt a (get_or ls 1 d) place → c.back_level-back.result ≡ (set_literal_at a place).level) value c.back_level-back.ensures.some);
      clear = clear_end a clauses l.marks l.analysis.chain kept l.analysis.left over;
    }

pub returns-in_err-visit-clause-learned : goal.returns-in_err-visit-clause-learned
returns-in_err-visit-clause-learned c =
    IfOk-from_err c.from_residual-in_err-visit.result (λ (learned : Learned). IsLearned c.args.trail.now.assignment c.args.pool.now.clauses learned.chain learned.clause.items learned.back) c.from_residual-in_err-visit.ensures.0
