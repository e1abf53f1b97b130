use Rattle.std.proofs.Common.{◌≡◌, ℕ, refl, sym, ap, subst, [], ◌∷◌, ◌∙◌, ◌+◌, ◌≤◌, drop, length, arith}
use Rattle.std.specs.Prelude.{List}
use Rattle.clause_pool.specs.Literal.{Literal, pos_literal}
use Rattle.clause_pool.specs.Clauses.{Clause, Clauses}
use Rattle.pair_miter.specs.Marks.{AreHelpers}
use Rattle.clause_pool.specs.Proper.{IsVariable}
use Rattle.pair_miter.specs.Rows.{variables, xor_of_two, xor_onward}
use Rattle.pair_miter.proofs.AddSteps.{Remains, writes_err, writes_last, remains_all, remains_less, remains_fails}
use Rattle.pair_miter.proofs.RowParts.{onward_parts}
use Rattle.pair_miter.proofs.OperandSteps.{variable_at, constant_at, operand_within, variable_within, variables_end}
use Rattle.pair_miter.proofs.rows.write_xor_onward.Goals as goal
use Rattle.pair_miter.proofs.rows.write_xor_onward.Goals.{in-Some+in_ok-write_xor_of_two, in_default}

-- if no variable is left, only the last rows are
onward_last : (y : Literal) (part : ℕ) (before : Literal) (last : ℕ) {old now : Clauses} {all : List Clause} {xs : List ℕ} → xs ≡ [] → Remains old now all (xor_onward y part before (last ∷ xs)) → Remains old now all (xor_of_two y before (pos_literal last))
onward_last y part before last {old} {now} {all} none remains = subst (λ vs. Remains old now all (xor_onward y part before (last ∷ vs))) none remains

pub loop-operand-init : goal.loop-operand-init
loop-operand-init c = record {
  same = refl;
  before = c.requires.first;
  last = c.requires.second;
  helpers = c.requires.helpers;
  remains = remains_all c.args.pool.now (xor_onward c.args.y c.args.helper c.args.first (c.args.second ∷ variables c.args.operands.now));
}

pub literal-here-requires : goal.literal-here-requires
literal-here-requires c =
    let next = variable_at c.args.operands.now c.loop-operand.operand-index c.operand-item.result c.loop-operand-test.true c.operand-item.is c.in-Some.x (sym c.variable.ensures ∙ c.in-Some.is) in
    let one = ap length next in
    let used = c.loop-operand.invariant.helpers (omega (arith, one)) in
    subst (λ n. IsVariable n c.loop-operand.part) (sym c.loop-operand.invariant.same) (used.0, omega (arith, used.1, one))

pub returns-in_err-write_xor_of_two-clause-written : goal.returns-in_err-write_xor_of_two-clause-written
returns-in_err-write_xor_of_two-clause-written c =
    let next = variable_at c.args.operands.now c.loop-operand.operand-index c.operand-item.result c.loop-operand-test.true c.operand-item.is c.in-Some.x (sym c.variable.ensures ∙ c.in-Some.is) in
    let parts = onward_parts c.args.y c.loop-operand.before c.loop-operand.part c.loop-operand.last c.literal-here.ensures next in
    writes_err c.from_residual.result c.from_residual.ensures.0 (remains_fails c.loop-operand.invariant.remains parts c.in_err-write_xor_of_two.ensures.written)

pub loop-operand-preserved : goal.loop-operand-preserved
loop-operand-preserved c =
    let i = c.loop-operand.operand-index in
    let old = c.args.pool.now in
    let all = xor_onward c.args.y c.args.helper c.args.first (c.args.second ∷ variables c.args.operands.now) in
    let rest = variables (drop (i + 1) c.args.operands.now) in
    let part = c.loop-operand.part in
    let test = c.loop-operand-test.true in
    let h = c.loop-operand.invariant in
    let at = λ (s : Clauses × ℕ × Literal × ℕ). Remains old s.0 all (xor_onward c.args.y s.1 s.2 (s.3 ∷ rest)) in
    elim c.match-variable.branch [
      | in-Some+in_ok-write_xor_of_two w ↦
          let x = w.in-Some.x in
          let next = variable_at c.args.operands.now i c.operand-item.result test c.operand-item.is x (sym c.variable.ensures ∙ w.in-Some.is) in
          let less = remains_less h.remains (onward_parts c.args.y c.loop-operand.before part c.loop-operand.last w.literal-here.ensures next) w.in_ok-write_xor_of_two.ensures.written in
          let enough : 3 + length rest ≡ 2 + length (variables (drop i c.args.operands.now)) = omega (arith, ap length next) in
          let helpers : AreHelpers c.args.tidier.now part (3 + length rest) = subst (AreHelpers c.args.tidier.now part) (sym enough) h.helpers in
          let used = helpers (omega arith) in
          record {
            same = w.tidier-is ∙ (w.in_ok-write_xor_of_two.ensures.variables ∙ h.same);
            before = subst (λ (l : Literal). l.variable ≤ c.args.tidier.now) (sym (w.before-is ∙ w.literal-here.ensures)) (omega (arith, used));
            last = subst (IsVariable c.args.tidier.now) (sym w.last-is) (variable_within c.args.tidier.now x c.operand-item.result (operand_within c.args.operands.now i c.operand-item.result test c.operand-item.is c.args.tidier.now c.requires.operands) (sym c.variable.ensures ∙ w.in-Some.is));
            helpers = λ big. let is = w.part-is in (omega arith, omega (arith, used));
            remains = subst at (λ j. (sym w.pool-is j, sym w.part-is j, sym w.before-is j, sym w.last-is j)) less;
          }
      | in_default w ↦
          let next = constant_at c.args.operands.now i c.operand-item.result test c.operand-item.is (sym c.variable.ensures ∙ w.in_default.is) in
          record {
            same = w.tidier-is ∙ h.same;
            before = subst (λ (l : Literal). l.variable ≤ c.args.tidier.now) (sym w.before-is) h.before;
            last = subst (IsVariable c.args.tidier.now) (sym w.last-is) h.last;
            helpers = subst (λ xs. AreHelpers c.args.tidier.now c.match-variable.part (2 + length xs)) next (subst (λ n. AreHelpers c.args.tidier.now n (2 + length (variables (drop i c.args.operands.now)))) (sym w.part-is) h.helpers);
            remains =
                subst at (λ j. (sym w.pool-is j, sym w.part-is j, sym w.before-is j, sym w.last-is j))
                (subst (λ xs. Remains old c.loop-operand.pool all (xor_onward c.args.y part c.loop-operand.before (c.loop-operand.last ∷ xs))) next h.remains);
          }
    ]

pub returns-clause-written : goal.returns-clause-written
returns-clause-written c =
    let none = variables_end c.args.operands.now c.loop-operand.operand-index c.loop-operand-test.false in
    writes_last c.write_xor_of_two-2.result c.write_xor_of_two-2.new.pool (onward_last c.args.y c.loop-operand.part c.loop-operand.before c.loop-operand.last none c.loop-operand.invariant.remains) c.write_xor_of_two-2.ensures.written
