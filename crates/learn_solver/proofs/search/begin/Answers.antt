use Rattle.std.proofs.Common.{◌∙◌, sym, subst}
use Rattle.learn_solver.specs.Walk.{AreUnmarked}
use Rattle.learn_solver.proofs.Attaching.{clear_zeros}
use Rattle.learn_solver.proofs.search.begin.Goals as goal

pub returns-clause-prepared : goal.returns-clause-prepared
returns-clause-prepared c =
    let same = c.in_ok-trail.ensures.variables in
    record {
      ready = c.in_ok-trail.ensures.ready;
      decider = c.in_ok-decider.ensures ∙ sym same;
      clear = subst (λ n. AreUnmarked n c.in_ok-marks.marks) (sym same) (subst (AreUnmarked c.args.variables) (sym c.in_ok-marks.ensures) (clear_zeros c.args.variables));
    }
