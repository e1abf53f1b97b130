use Rattle.std.proofs.Common.{refl, subst}
use Rattle.std.proofs.lemmas.Result.{IfOk-from_err}
use Rattle.learn_solver.specs.declared.aim.Aim.TheVariants.{Both}
use Rattle.learn_solver.specs.declared.search.Search.{Search}
use Rattle.learn_solver.specs.Search.{EndsStep, EndsSweep}
use Rattle.pair_miter.proofs.PlaceSteps.{grows_none, grows_through}
use Rattle.learn_solver.proofs.Searching.{prepared_on, search_on}
use Rattle.learn_solver.proofs.sweep.reach.Goals.{else-loop-turn-test, then-loop-turn-test+else-len-conflicts+in_ok-take_step+in-Open}
use Rattle.learn_solver.proofs.sweep.reach.Goals as goal

pub loop-turn-init : goal.loop-turn-init
loop-turn-init c =
    let old = c.args.search.now in
    let clauses = c.args.pool.now.clauses in
    let search = c.requires.search in
    let new : Search = record old { decider = c.turn_to.new.self } in
    record {
      search = search_on c.args.miter.now c.args.conflicts old clauses search new (prepared_on old clauses old.trail c.turn_to.new.self search.prepared search.prepared.ready refl c.turn_to.ensures) refl refl;
      grows = grows_none c.args.pool.now;
    }

pub loop-turn-preserved : goal.loop-turn-preserved
loop-turn-preserved c =
    let end = subst (EndsStep c.args.miter.now c.args.conflicts (Both c.args.both) c.loop-turn.search c.take_step.new.search c.take_step.new.pool.clauses) c.in-Learned.is c.in_ok-take_step.ensures.ends in
    record { search = end.0; grows = grows_through c.args.pool.now c.loop-turn.pool c.take_step.new.pool c.loop-turn.invariant.grows c.take_step.ensures.grows }

pub returns-in-Refuted-clause-ends : goal.returns-in-Refuted-clause-ends
returns-in-Refuted-clause-ends c =
    subst (EndsStep c.args.miter.now c.args.conflicts (Both c.args.both) c.loop-turn.search c.take_step.new.search c.take_step.new.pool.clauses) c.in-Refuted.is c.in_ok-take_step.ensures.ends

pub returns-clause-ends : goal.returns-clause-ends
returns-clause-ends c = elim c.loop-turn-test.branch [
  | else-loop-turn-test w ↦ rw (w.search-is, w.pool-is) c.loop-turn.invariant.search
  | then-loop-turn-test+else-len-conflicts+in_ok-take_step+in-Open w ↦
      let end = subst (EndsStep c.args.miter.now c.args.conflicts (Both c.args.both) c.loop-turn.search w.take_step.new.search w.take_step.new.pool.clauses) w.in-Open.is w.in_ok-take_step.ensures.ends in
      rw (w.search-is, w.pool-is) end.0
]

pub returns-in_err-take_step-clause-ends : goal.returns-in_err-take_step-clause-ends
returns-in_err-take_step-clause-ends c = IfOk-from_err c.from_residual.result (EndsSweep c.args.miter.now c.args.conflicts c.take_step.new.search c.take_step.new.pool.clauses) c.from_residual.ensures.0

pub returns-clause-grows : goal.returns-clause-grows
returns-clause-grows c = elim c.loop-turn-test.branch [
  | else-loop-turn-test w ↦ rw w.pool-is c.loop-turn.invariant.grows
  | then-loop-turn-test+else-len-conflicts+in_ok-take_step+in-Open w ↦
      rw w.pool-is (grows_through c.args.pool.now c.loop-turn.pool w.take_step.new.pool c.loop-turn.invariant.grows w.take_step.ensures.grows)
]

pub returns-in_err-take_step-clause-grows : goal.returns-in_err-take_step-clause-grows
returns-in_err-take_step-clause-grows c = grows_through c.args.pool.now c.loop-turn.pool c.take_step.new.pool c.loop-turn.invariant.grows c.take_step.ensures.grows

pub returns-in-Refuted-clause-grows : goal.returns-in-Refuted-clause-grows
returns-in-Refuted-clause-grows c = grows_through c.args.pool.now c.loop-turn.pool c.take_step.new.pool c.loop-turn.invariant.grows c.take_step.ensures.grows
