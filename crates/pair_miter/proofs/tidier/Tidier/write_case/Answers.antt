use Rattle.std.proofs.Common.{◌≡◌, ◌-◌, ◌<◌, ◌^◌, ◌∙◌, sym, ap, subst, arith}
use Rattle.std.specs.Prelude.{Bool, true, false, ◌||◌, [], ◌∷◌, ◌++◌, if◌then◌else◌}
use Rattle.std.proofs.Math.Bool.{or-true}
use Rattle.clause_pool.specs.Literal.{Literal}
use Rattle.clause_pool.specs.Clauses.{Clause}
use Rattle.pair_miter.specs.Operand.{Operand, is_constant}
use Rattle.pair_miter.specs.Adds.{Adds, WritesClauses}
use Rattle.pair_miter.specs.Miter.{tidy}
use Rattle.pair_miter.specs.Rows.{case_clause, operand_literals}
use Rattle.pair_miter.proofs.AddSteps.{adds_none, keeps_all, writes_err}
use Rattle.pair_miter.proofs.OperandSteps.{operand_weaker}
use Rattle.pair_miter.proofs.TidyParts.{tidy_none}
use Rattle.pair_miter.proofs.tidier.Tidier.write_case.Goals as goal
use Rattle.pair_miter.proofs.tidier.Tidier.write_case.Goals.{then-is_constant-via-then-is_constant, then-is_constant-via-else-is_constant+then-is_constant-2}

-- with a constant that is true there is no clause
none_left : (l : Literal) (unless : Bool) (chooser : Operand) (positive : Bool) (chosen : Operand) → (is_constant unless chooser || is_constant positive chosen) ≡ true → case_clause l unless chooser positive chosen ≡ []
none_left l unless chooser positive chosen e = ap (λ b. if b then [] else (l ∷ operand_literals unless chooser ++ operand_literals positive chosen) ∷ []) e

pub returns-then-is_constant-clause-written : goal.returns-then-is_constant-clause-written
returns-then-is_constant-clause-written c =
    let pool = c.args.pool.now in
    let true_one : (is_constant c.args.unless c.args.chooser.now || is_constant c.args.positive c.args.chosen.now) ≡ true =
    elim c.then-is_constant.branch [
      | then-is_constant-via-then-is_constant w ↦ ap (λ b. b || is_constant c.args.positive c.args.chosen.now) (sym c.is_constant.ensures ∙ w.if-is_constant.true)
      | then-is_constant-via-else-is_constant+then-is_constant-2 w ↦
          ap (λ b. is_constant c.args.unless c.args.chooser.now || b) (sym w.is_constant-else-is_constant.ensures ∙ w.if-is_constant-2.true) ∙ or-true (is_constant c.args.unless c.args.chooser.now)
    ] in
    subst (Adds pool pool) (sym tidy_none ∙ ap tidy (sym (none_left c.args.l c.args.unless c.args.chooser.now c.args.positive c.args.chosen.now true_one))) (adds_none pool)

pub fill_case-requires-clause-chooser : goal.fill_case-requires-clause-chooser
fill_case-requires-clause-chooser c =
    let few = subst (λ n. n < 2 ^ 31) c.self.view_is c.self.invariant.few in
    operand_weaker c.args.self.now (2 ^ 31 - 1) c.args.chooser.now (omega (arith, few)) c.requires.chooser

pub fill_case-requires-clause-chosen : goal.fill_case-requires-clause-chosen
fill_case-requires-clause-chosen c =
    let few = subst (λ n. n < 2 ^ 31) c.self.view_is c.self.invariant.few in
    operand_weaker c.args.self.now (2 ^ 31 - 1) c.args.chosen.now (omega (arith, few)) c.requires.chosen

-- without one there is one clause, the row
one_left : (l : Literal) (unless : Bool) (chooser : Operand) (positive : Bool) (chosen : Operand) {row : Clause} → is_constant unless chooser ≡ false → is_constant positive chosen ≡ false → row ≡ l ∷ operand_literals unless chooser ++ operand_literals positive chosen
    → case_clause l unless chooser positive chosen ≡ row ∷ []
one_left l unless chooser positive chosen e f is = (λ i. if e i || f i then [] else (l ∷ operand_literals unless chooser ++ operand_literals positive chosen) ∷ []) ∙ ap (λ (ls : Clause). ls ∷ []) (sym is)

pub returns-clause-written : goal.returns-clause-written
returns-clause-written c =
    let left = one_left c.args.l c.args.unless c.args.chooser.now c.args.positive c.args.chosen.now (sym c.is_constant.ensures ∙ c.if-is_constant.false) (sym c.is_constant-else-is_constant.ensures ∙ c.if-is_constant-2.false) (c.as_slice.ensures.value ∙ c.in_ok-fill_case.ensures) in
    subst (λ rows. WritesClauses c.write_once.result c.args.pool.now c.write_once.new.pool (tidy rows)) (sym left) c.write_once.ensures.written

pub invariant_of-self : goal.invariant_of-self
invariant_of-self c = c.self.invariant

pub invariant_of-self-2 : goal.invariant_of-self-2
invariant_of-self-2 c = record { few = c.self.invariant.few; places = c.write_once.ensures.places ∙ c.self.invariant.places; none = c.write_once.ensures.clear }

pub returns-in_err-fill_case-clause-written : goal.returns-in_err-fill_case-clause-written
returns-in_err-fill_case-clause-written c =
    writes_err c.from_residual.result c.from_residual.ensures.0 (keeps_all c.args.pool.now (tidy (case_clause c.args.l c.args.unless c.args.chooser.now c.args.positive c.args.chosen.now)))
