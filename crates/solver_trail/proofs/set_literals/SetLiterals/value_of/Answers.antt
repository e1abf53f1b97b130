use Rattle.std.proofs.Common.{◌≡◌, ◌∙◌, get_or, None, Some, sym, ap, subst, arith}
use Rattle.std.specs.Bool.{beq}
use Rattle.solver_trail.specs.Assignment.{Assignment, IsTrail, IsValueOf}
use Rattle.solver_trail.proofs.Placed.{placed_trail, slot_read, undetermined, value_set}
use Rattle.solver_trail.proofs.set_literals.SetLiterals.value_of.Goals as goal
use Rattle.solver_trail.proofs.set_literals.SetLiterals.value_of.Goals.{After-index}

slot : (c : After-index) → get_or c.self.inside.slots.items c.args.lit.variable None ≡ c.index.result.now
slot c =
    let variables = ap (λ (a : Assignment). a.variables) c.self.view_is in
    slot_read c.self.inside.slots.items c.args.lit.variable c.variable.result c.index.result.now c.variable.ensures.value (omega (arith, c.self.invariant.placed.table, variables, c.requires)) c.index.ensures

trail : (c : After-index) → IsTrail c.args.self.now
trail c = subst IsTrail c.self.view_is (placed_trail c.self.invariant.placed c.self.inside.level c.self.invariant.levels)

pub returns-in_err-slot : goal.returns-in_err-slot
returns-in_err-slot c =
    let d = (goal.at.returns-in_err-slot c).After-index in
    record {
      value = subst (IsValueOf c.args.self.now c.args.lit) (sym c.from_residual.ensures)
          (subst (λ (a : Assignment). IsValueOf a c.args.lit None) c.self.view_is (undetermined c.self.invariant.placed c.args.lit (slot d ∙ c.in_err-slot.was)));
      trail = trail d;
    }

pub returns : goal.returns
returns c =
    let i = c.self.inside in
    let s = c.in_ok-slot.slot in
    let d = (goal.at.returns c).After-index in
    record {
      value = subst (λ sign. IsValueOf c.args.self.now c.args.lit (Some (beq s.positive sign))) (sym c.positive.ensures)
          (subst (λ (a : Assignment). IsValueOf a c.args.lit (Some (beq s.positive c.args.lit.positive))) c.self.view_is (value_set c.self.invariant.placed c.args.lit s i.variables i.level (slot d ∙ c.in_ok-slot.was)));
      trail = trail d;
    }
