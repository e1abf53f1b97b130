use Rattle.std.proofs.Common.{◌≡◌, ℕ, refl, sym, subst, [], ◌∷◌, ◌∙◌, ◌++◌, ◌+◌, ◌≤◌, drop}
use Rattle.std.specs.Prelude.{All, Bool, not, List}
use Rattle.std.proofs.lemmas.List.Elements.{All-cons, All-nil}
use Rattle.clause_pool.specs.Clauses.{Clause, Clauses}
use Rattle.clause_pool.specs.Literal.{Literal, opposite}
use Rattle.pair_miter.specs.Rows.{variables, decided_rows, signed_literal, with_each, with_all}
use Rattle.pair_miter.proofs.AddSteps.{Remains, remains_all, step, step_fails, writes_err, writes_last}
use Rattle.pair_miter.proofs.OperandSteps.{variable_at, constant_at, operand_within, variable_within, variables_end}
use Rattle.pair_miter.proofs.RowParts.{decided_parts}
use Rattle.pair_miter.proofs.rows.write_decided.Goals as goal
use Rattle.pair_miter.proofs.rows.write_decided.Goals.{in-Some+in_ok-write, in_default}

module _ (d : Bool) (l : Literal) (all : List ℕ) {old now : Clauses} {rows : List Clause} {xs : List ℕ} (remains : Remains old now rows (with_each l (not d) xs ++ with_all (opposite l) d all ∷ [])) where
  other : {ys : List ℕ} → xs ≡ ys → Remains old now rows (with_each l (not d) ys ++ with_all (opposite l) d all ∷ [])
  other same = subst (λ vs. Remains old now rows (with_each l (not d) vs ++ with_all (opposite l) d all ∷ [])) same remains

  -- the row of the next variable comes first
  next_row : {x : ℕ} {ys : List ℕ} → xs ≡ x ∷ ys → Remains old now rows ((l ∷ signed_literal (not d) x ∷ []) ∷ with_each l (not d) ys ++ with_all (opposite l) d all ∷ [])
  next_row next = other next

  -- only the last row is left
  last_row : {k : Literal} → xs ≡ [] → k ≡ opposite l → Remains old now rows (with_all k d all ∷ [])
  last_row none is = subst (λ (k : Literal). Remains old now rows (with_all k d all ∷ [])) (sym is) (other none)

pub write-requires : goal.write-requires
write-requires c = All-cons (λ (l : Literal). l.variable ≤ c.args.tidier.now) c.args.l [] c.requires.output (All-nil (λ (l : Literal). l.variable ≤ c.args.tidier.now))

pub loop-operand-init : goal.loop-operand-init
loop-operand-init c =
    let rows = decided_rows c.args.decides c.args.l c.args.operands.now in
    record { same = refl; remains = subst (Remains c.args.pool.now c.args.pool.now rows) (decided_parts c.args.decides c.args.l c.args.operands.now (sym c.has_constant.ensures ∙ c.if-has_constant.false)) (remains_all c.args.pool.now rows) }

pub write-requires-in-Some : goal.write-requires-in-Some
write-requires-in-Some c =
    let n = c.args.tidier.now in
    let operand = operand_within c.args.operands.now c.loop-operand.operand-index c.operand-item.result c.loop-operand-test.true c.operand-item.is n c.requires.operands in
    let within = variable_within n c.in-Some.x c.operand-item.result operand (sym c.variable.ensures ∙ c.in-Some.is) in
    let below = subst (λ (l : Literal). l.variable ≤ n) (sym c.literal-lit.ensures) within.1 in
    subst (λ m. All (λ (l : Literal). l.variable ≤ m) (c.args.l ∷ c.literal-lit.result ∷ [])) (sym c.loop-operand.invariant.same)
    (All-cons (λ (l : Literal). l.variable ≤ n) c.args.l (c.literal-lit.result ∷ []) c.requires.output (All-cons (λ (l : Literal). l.variable ≤ n) c.literal-lit.result [] below (All-nil (λ (l : Literal). l.variable ≤ n))))

pub returns-in_err-write-clause-written : goal.returns-in_err-write-clause-written
returns-in_err-write-clause-written c =
    let next = variable_at c.args.operands.now c.loop-operand.operand-index c.operand-item.result c.loop-operand-test.true c.operand-item.is c.in-Some.x (sym c.variable.ensures ∙ c.in-Some.is) in
    let remains = next_row c.args.decides c.args.l (variables c.args.operands.now) c.loop-operand.invariant.remains next in
    writes_err c.from_residual.result c.from_residual.ensures.0 (step_fails remains (λ j. c.args.l ∷ c.literal-lit.ensures j ∷ []) c.in_err-write.ensures.written)

pub loop-operand-preserved : goal.loop-operand-preserved
loop-operand-preserved c =
    let operands = c.args.operands.now in
    let i = c.loop-operand.operand-index in
    let test = c.loop-operand-test.true in
    let h = c.loop-operand.invariant in
    let left = with_each c.args.l (not c.args.decides) (variables (drop (i + 1) operands)) ++ with_all (opposite c.args.l) c.args.decides (variables operands) ∷ [] in
    let at = λ (pool : Clauses). Remains c.args.pool.now pool (decided_rows c.args.decides c.args.l operands) left in
    elim c.match-variable.branch [
      | in-Some+in_ok-write w ↦
          let next = variable_at operands i c.operand-item.result test c.operand-item.is w.in-Some.x (sym c.variable.ensures ∙ w.in-Some.is) in
          record {
            same = w.tidier-is ∙ (w.in_ok-write.ensures.variables ∙ h.same);
            remains = subst at (sym w.pool-is) (step (next_row c.args.decides c.args.l (variables operands) h.remains next) (λ j. c.args.l ∷ w.literal-lit.ensures j ∷ []) w.in_ok-write.ensures.written);
          }
      | in_default w ↦
          let next = constant_at operands i c.operand-item.result test c.operand-item.is (sym c.variable.ensures ∙ w.in_default.is) in
          record { same = w.tidier-is ∙ h.same; remains = subst at (sym w.pool-is) (other c.args.decides c.args.l (variables operands) h.remains next) }
    ]

pub returns-clause-written : goal.returns-clause-written
returns-clause-written c =
    let none = variables_end c.args.operands.now c.loop-operand.operand-index c.loop-operand-test.false in
    writes_last c.write_all.result c.write_all.new.pool (last_row c.args.decides c.args.l (variables c.args.operands.now) c.loop-operand.invariant.remains none c.opposite.ensures) c.write_all.ensures.written
