use Rattle.std.proofs.Common.{◌<◌, ◌≤◌, sym, subst}
use Rattle.clause_pool.specs.Literal.{Literal}
use Rattle.learn_solver.proofs.Levels.{inside_at}
use Rattle.learn_solver.proofs.Falsity.{read_at}
use Rattle.learn_solver.proofs.places.literal_at.Goals as goal

pub returns-clause-is : goal.returns-clause-is
returns-clause-is c = read_at c.args.trail.now.assignment c.args.place c.set_literals-literals.result.now c.index-literals-place.result c.requires.inside c.set_literals-literals.ensures.literals c.index-literals-place.is

pub returns-clause-from : goal.returns-clause-from
returns-clause-from c =
    let a = c.args.trail.now.assignment in
    let is = read_at a c.args.place c.set_literals-literals.result.now c.index-literals-place.result c.requires.inside c.set_literals-literals.ensures.literals c.index-literals-place.is in
    subst (λ (l : Literal). 0 < l.variable) (sym is) (inside_at a c.requires.trail c.args.place c.requires.inside).0

pub returns-clause-inside : goal.returns-clause-inside
returns-clause-inside c =
    let a = c.args.trail.now.assignment in
    let is = read_at a c.args.place c.set_literals-literals.result.now c.index-literals-place.result c.requires.inside c.set_literals-literals.ensures.literals c.index-literals-place.is in
    subst (λ (l : Literal). l.variable ≤ a.variables) (sym is) (inside_at a c.requires.trail c.args.place c.requires.inside).1
