use Rattle.std.proofs.Common.{subst}
use Rattle.learn_solver.specs.Search.{EndsSweep}
use Rattle.pair_miter.proofs.PlaceSteps.{grows_none, grows_through}
use Rattle.learn_solver.proofs.sweep.try_all.Goals as goal

pub attempt-requires-in-loop-copies-clause-search : goal.attempt-requires-in-loop-copies-clause-search
attempt-requires-in-loop-copies-clause-search c = subst (EndsSweep c.args.miter.now c.args.conflicts c.attempt.new.search c.attempt.new.pool.clauses) c.in_default.is c.in_ok-last.ensures.ends

pub loop-copies-preserved : goal.loop-copies-preserved
loop-copies-preserved c =
    let first = grows_through c.args.pool.now c.loop-copies.pool c.attempt.new.pool c.loop-copies.invariant.grows c.attempt.ensures.grows in
    record {
      search = subst (EndsSweep c.args.miter.now c.args.conflicts c.attempt-in-loop-copies.new.search c.attempt-in-loop-copies.new.pool.clauses) c.in_default-2.is c.in_ok-last-2.ensures.ends;
      grows = grows_through c.args.pool.now c.attempt.new.pool c.attempt-in-loop-copies.new.pool first c.attempt-in-loop-copies.ensures.grows;
    }

pub loop-copies-init : goal.loop-copies-init
loop-copies-init c = record { search = c.requires.search; grows = grows_none c.args.pool.now }
