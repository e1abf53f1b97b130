use Rattle.std.proofs.Common.{◌≡◌, ◌∙◌, ap, sym}
use Rattle.clause_pool.specs.Literal.{Literal}
use Rattle.solver_trail.specs.declared.set_literals.SetLiteral.{SetLiteral}
use Rattle.learn_solver.proofs.Levels.{at_place, not_unset}
use Rattle.learn_solver.proofs.places.level_at.Goals as goal

pub returns : goal.returns
returns c =
    let variable = c.variable.ensures.value ∙ ap (λ (l : Literal). l.variable) c.literal_at.ensures.is in
    sym (at_place c.args.trail.now.assignment c.requires.trail (λ (s : SetLiteral). s.level ≡ c.in-Some.level) c.args.place c.requires.inside c.variable.result variable c.in-Some.ensures)

pub unreachable-requires : goal.unreachable-requires
unreachable-requires c =
    let variable = c.variable.ensures.value ∙ ap (λ (l : Literal). l.variable) c.literal_at.ensures.is in
    not_unset c.args.trail.now.assignment c.requires.trail c.args.place c.requires.inside c.variable.result variable c.in-None.ensures
