use Rattle.std.proofs.Common.{◌∙◌, sym, subst, arith}
use Rattle.learn_solver.specs.Walk.{AreUnmarked}
use Rattle.learn_solver.proofs.Ready.{ready_cut}
use Rattle.learn_solver.proofs.search.restart.Goals as goal

pub returns-clause-prepared : goal.returns-clause-prepared
returns-clause-prepared c =
    let old = c.args.search.now in
    let clauses = c.args.pool.now.clauses in
    let e = c.back_to.ensures in
    let same = e.assignment.variables in
    record {
      ready = ready_cut old.trail c.back_to.new.self clauses 0 (omega arith) c.requires.ready e.assignment e.attached (e.fits clauses c.requires.ready.fits) e.trail;
      decider = c.leave.ensures ∙ (c.requires.decider ∙ sym same);
      clear = subst (λ n. AreUnmarked n old.marks) (sym same) c.requires.clear;
    }
