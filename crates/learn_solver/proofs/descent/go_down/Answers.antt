use Rattle.std.proofs.Common.{◌∙◌, length, ap, arith}
use Rattle.std.proofs.lemmas.List.{length_push}
use Rattle.solver_trail.specs.Assignment.{Assignment, decision}
use Rattle.learn_solver.proofs.Ready.{ready_decided}
use Rattle.learn_solver.proofs.descent.go_down.Goals as goal

pub settle-requires : goal.settle-requires
settle-requires c =
    let old = c.args.trail.now in
    let clauses = c.args.pool.now.clauses in
    let d = c.decide.ensures in
    ready_decided old c.decide.new.self clauses c.args.lit c.requires.ready c.requires.quiet (ap (λ (a : Assignment). a.literals) d.assignment) (ap (λ (a : Assignment). a.level) d.assignment)
    d.attached (d.fits clauses c.requires.ready.fits) d.trail

pub returns-clause-grows : goal.returns-clause-grows
returns-clause-grows c =
    let old = c.args.trail.now.assignment in
    let d = c.decide.ensures in
    let g = c.settle.ensures.grows in
    record {
      variables = g.variables ∙ ap (λ (a : Assignment). a.variables) d.assignment;
      longer = omega (arith, g.longer, ap (λ (a : Assignment). length a.literals) d.assignment, length_push old.literals (decision old c.args.lit));
      few = g.few;
    }
