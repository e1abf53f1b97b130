use Rattle.std.proofs.Common.{◌∙◌, ◌<◌, ◌≤◌, length, sym, subst, arith}
use Rattle.std.proofs.lemmas.List.Elements.{All-weaker}
use Rattle.std.proofs.lemmas.Result.{on_ok_weaker}
use Rattle.learn_solver.specs.Walk.{AreUnmarked}
use Rattle.learn_solver.proofs.search.take_in.Goals as goal

pub renew-requires : goal.renew-requires
renew-requires c =
    let old = c.args.search.now in
    let n = c.requires.prepared.decider in
    let places = c.requires.prepared.clear.places in
    All-weaker (λ x. x < length old.marks) (λ x. x ≤ old.decider) (λ x h. omega (arith, h, places, n)) c.met.result.now c.met.ensures

pub returns-clause-prepared : goal.returns-clause-prepared
returns-clause-prepared c =
    let e = c.learn.ensures in
    on_ok_weaker c.learn.result
    (λ ready. record {
      ready = ready;
      decider = c.leave.ensures ∙ (c.renew.ensures ∙ (c.requires.prepared.decider ∙ sym e.variables));
      clear = subst (AreUnmarked c.learn.new.trail.assignment.variables) (sym c.clear_met.ensures) (subst (λ v. AreUnmarked v c.args.search.now.marks) (sym e.variables) c.requires.prepared.clear);
    })
    e.ready
