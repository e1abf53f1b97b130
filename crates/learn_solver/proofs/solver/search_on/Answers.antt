use Rattle.std.proofs.Common.{◌≡◌, refl, length, sym, subst, arith}
use Rattle.solver_trail.specs.Assignment.{assigned_literals}
use Rattle.learn_solver.specs.declared.aim.Aim.TheVariants.{Model}
use Rattle.learn_solver.specs.Search.{EndsStep, miter_clauses}
use Rattle.learn_solver.specs.Solved.{HasSpentLog}
use Rattle.pair_miter.proofs.PlaceSteps.{grows_none, grows_through}
use Rattle.learn_solver.proofs.Attaching.{quiet_first}
use Rattle.net_model.proofs.Errors.{on_error}
use Rattle.learn_solver.proofs.Searching.{learned_so_far, restarted}
use Rattle.learn_solver.proofs.Solving.{spends}
use Rattle.learn_solver.proofs.solver.search_on.Goals as goal

pub vector-requires-clause-whole : goal.vector-requires-clause-whole
vector-requires-clause-whole c =
    let end = subst (EndsStep c.args.miter.now c.args.conflicts Model c.conflicts.search c.take_step.new.search c.take_step.new.pool.clauses) c.in-Open.is c.in_ok-take_step.ensures.ends in
    end.2 refl

pub vector-requires-clause-quiet : goal.vector-requires-clause-quiet
vector-requires-clause-quiet c =
    let new = c.take_step.new.search in
    let pool = c.take_step.new.pool.clauses in
    let end = subst (EndsStep c.args.miter.now c.args.conflicts Model c.conflicts.search new pool) c.in-Open.is c.in_ok-take_step.ensures.ends in
    quiet_first (assigned_literals new.trail.assignment) pool (miter_clauses c.args.miter.now) end.0.begins end.1

pub returns-in-Open-clause-solved : goal.returns-in-Open-clause-solved
returns-in-Open-clause-solved c =
    let new = c.take_step.new.search in
    let pool = c.take_step.new.pool.clauses in
    let end = subst (EndsStep c.args.miter.now c.args.conflicts Model c.conflicts.search new pool) c.in-Open.is c.in_ok-take_step.ensures.ends in
    record {
      separates = c.in_ok-vector-in-Open.ensures;
      learned = learned_so_far c.args.miter.now c.args.conflicts new pool end.0;
    }

pub returns-clause-solved : goal.returns-clause-solved
returns-clause-solved c =
    let first = miter_clauses c.args.miter.now in
    let search = c.conflicts.search in
    let all : length search.chains.items ≡ c.args.conflicts = omega (arith, c.conflicts-test.false, c.len.ensures, c.conflicts.invariant.search.few, search.chains.ok.0) in
    subst (HasSpentLog first c.args.conflicts c.conflicts.pool.clauses) (sym c.in_ok-log_of.ensures)
    (spends first c.conflicts.pool.clauses search.chains.items c.args.conflicts c.conflicts.invariant.search.learning all)

pub conflicts-preserved : goal.conflicts-preserved
conflicts-preserved c =
    let end = subst (EndsStep c.args.miter.now c.args.conflicts Model c.conflicts.search c.take_step.new.search c.take_step.new.pool.clauses) c.in-Learned.is c.in_ok-take_step.ensures.ends in
    record { search = end.0; grows = grows_through c.args.pool.now c.conflicts.pool c.take_step.new.pool c.conflicts.invariant.grows c.take_step.ensures.grows }

pub conflicts-preserved-then-is_due : goal.conflicts-preserved-then-is_due
conflicts-preserved-then-is_due c =
    let end = subst (EndsStep c.args.miter.now c.args.conflicts Model c.conflicts.search c.take_step.new.search c.take_step.new.pool.clauses) c.in-Learned.is c.in_ok-take_step.ensures.ends in
    let e = c.restart.ensures in
    record {
      search = restarted c.args.miter.now c.args.conflicts c.take_step.new.search c.take_step.new.pool.clauses end.0 c.restart.new.search e.prepared e.variables e.chains;
      grows = grows_through c.args.pool.now c.conflicts.pool c.take_step.new.pool c.conflicts.invariant.grows c.take_step.ensures.grows;
    }

pub conflicts-init : goal.conflicts-init
conflicts-init c = record { search = c.requires.search; grows = grows_none c.args.pool.now }

pub restart-requires : goal.restart-requires
restart-requires c =
    let end = subst (EndsStep c.args.miter.now c.args.conflicts Model c.conflicts.search c.take_step.new.search c.take_step.new.pool.clauses) c.in-Learned.is c.in_ok-take_step.ensures.ends in
    end.0.prepared

pub returns-in_err-vector-in-Open-clause-err : goal.returns-in_err-vector-in-Open-clause-err
returns-in_err-vector-in-Open-clause-err c =
    let new = c.take_step.new.search in
    let pool = c.take_step.new.pool.clauses in
    let end = subst (EndsStep c.args.miter.now c.args.conflicts Model c.conflicts.search new pool) c.in-Open.is c.in_ok-take_step.ensures.ends in
    on_error c.from_residual-in_err-vector-in-Open.result (learned_so_far c.args.miter.now c.args.conflicts new pool end.0)

pub returns-in_err-log_of-clause-err : goal.returns-in_err-log_of-clause-err
returns-in_err-log_of-clause-err c =
    on_error c.from_residual-in_err-log_of.result (learned_so_far c.args.miter.now c.args.conflicts c.conflicts.search c.conflicts.pool.clauses c.conflicts.invariant.search)
