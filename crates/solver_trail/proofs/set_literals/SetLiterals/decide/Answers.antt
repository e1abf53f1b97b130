use Rattle.std.proofs.Common.{arith, ap, sym, subst}
use Rattle.std.specs.Prelude.{All, ◌≢◌}
use Rattle.solver_trail.specs.declared.set_literals.SetLiteral.{SetLiteral}
use Rattle.solver_trail.specs.Assignment.{Assignment}
use Rattle.solver_trail.proofs.Levels.{AreLevels-le}
use Rattle.solver_trail.proofs.Placed.{unset_slot, room_left}
use Rattle.solver_trail.proofs.set_literals.SetLiterals.decide.Goals as goal

pub overflow_add-self : goal.overflow_add-self
overflow_add-self c =
    let i = c.put.inside in
    let p = c.put.invariant.placed in
    let v = c.args.lit.variable in
    let variables = ap (λ (a : Assignment). a.variables) c.put.view_is in
    let free = unset_slot p v (subst (λ entries. All (λ (s : SetLiteral). s.literal.variable ≢ v) entries) (sym (ap (λ (a : Assignment). a.literals) c.put.view_is)) c.requires.unset) in
    omega (arith, AreLevels-le 0 i.entries.items i.level c.put.invariant.levels, room_left p v (omega (arith, c.variable-variable.ensures.value, c.variable-variable.ensures.from)) (omega (arith, variables, c.requires.inside)) free)
