use Rattle.std.proofs.Common.{◌-◌, ◌<◌, ◌≤◌, ◌^◌, ◌∙◌, [], ◌∷◌, get_or, sym, subst, arith}
use Rattle.std.specs.Prelude.{All}
use Rattle.pair_miter.specs.Marks.{IsOperand, HavePlaces}
use Rattle.pair_miter.specs.Adds.{WritesClauses}
use Rattle.pair_miter.specs.Miter.{tidy}
use Rattle.pair_miter.specs.Rows.{variables, with_all}
use Rattle.pair_miter.proofs.AddSteps.{keeps_all, writes_err}
use Rattle.pair_miter.proofs.OperandSteps.{operand_weaker, row_places}
use Rattle.pair_miter.proofs.tidier.Tidier.write_all.Goals as goal

pub write_once-requires-clause-places : goal.write_once-requires-clause-places
write_once-requires-clause-places c =
    let i = c.self.inside in
    subst (HavePlaces i.marks.items) (sym (c.as_slice.ensures.value ∙ c.in_ok-fill.ensures))
    (row_places i.variables i.marks.items c.args.first c.args.positive c.args.operands.now c.self.invariant.places
    (subst (λ n. c.args.first.variable ≤ n) (sym c.self.view_is) c.requires.first)
    (subst (λ n. All (IsOperand n) c.args.operands.now) (sym c.self.view_is) c.requires.operands))

pub fill-requires : goal.fill-requires
fill-requires c = λ k d less.
    let few = subst (λ n. n < 2 ^ 31) c.self.view_is c.self.invariant.few in
    operand_weaker c.args.self.now (2 ^ 31 - 1) (get_or c.args.operands.now k d) (omega (arith, few)) (c.requires.operands k d less)

pub returns-clause-written : goal.returns-clause-written
returns-clause-written c =
    subst (λ row. WritesClauses c.write_once.result c.args.pool.now c.write_once.new.pool (tidy (row ∷ []))) (c.as_slice.ensures.value ∙ c.in_ok-fill.ensures) c.write_once.ensures.written

pub invariant_of-self : goal.invariant_of-self
invariant_of-self c = c.self.invariant

pub invariant_of-self-2 : goal.invariant_of-self-2
invariant_of-self-2 c = record { few = c.self.invariant.few; places = c.write_once.ensures.places ∙ c.self.invariant.places; none = c.write_once.ensures.clear }

pub returns-in_err-fill-clause-written : goal.returns-in_err-fill-clause-written
returns-in_err-fill-clause-written c =
    writes_err c.from_residual.result c.from_residual.ensures.0 (keeps_all c.args.pool.now (tidy (with_all c.args.first c.args.positive (variables c.args.operands.now) ∷ [])))
