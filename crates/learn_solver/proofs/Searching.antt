-- A search over the miter of a pair, from step to step.
use Rattle.std.proofs.Common.{◌≡◌, ◌∙◌, ℕ, ◌+◌, ◌<◌, ◌≤◌, ◌^◌, List, length, ap, sym, subst, arith, Vec, Global}
use Rattle.clause_pool.specs.Clauses.{Clause, BeginsWith}
use Rattle.clause_pool.proofs.Numbered.{begins_through}
use Rattle.pair_miter.specs.ChainView.{ChainView}
use Rattle.pair_miter.specs.MiterView.{Miter}
use Rattle.pair_miter.specs.Variables.{variable_count}
use Rattle.solver_trail.specs.Trail.{TrailState}
use Rattle.learn_solver.specs.declared.search.Search.{Search}
use Rattle.learn_solver.specs.Learning.{IsLearning}
use Rattle.learn_solver.specs.Ready.{IsSolverReady}
use Rattle.learn_solver.specs.Search.{IsSearchReady, IsSearch, LearnsAtMost, LearnsClause, miter_clauses}
use Rattle.learn_solver.specs.Solved.{HasLearned}
use Rattle.learn_solver.specs.Walk.{AreUnmarked}
use Rattle.learn_solver.proofs.Solving.{learned_within, learning_long}

-- with another trail that is ready, the search is prepared too
pub prepared_on : (old : Search) (clauses : List Clause) (trail : TrailState) (decider : ℕ) → IsSearchReady old clauses → IsSolverReady trail clauses → trail.assignment.variables ≡ old.trail.assignment.variables → decider ≡ old.decider
    → IsSearchReady (record old { trail = trail; decider = decider }) clauses
prepared_on old clauses trail decider h ready same kept = record {
  ready = ready;
  decider = kept ∙ (h.decider ∙ sym same);
  clear = subst (λ n. AreUnmarked n old.marks) (sym same) h.clear;
}

module _ (m : Miter) (conflicts : ℕ) (old : Search) (pool : List Clause) (h : IsSearch m conflicts old pool) where
  pub decider_is : old.decider ≡ variable_count m.circuit m.f m.g
  decider_is = h.prepared.decider ∙ h.variables

  -- nothing is learned, and the search is prepared
  pub search_on : (new : Search) → IsSearchReady new pool → new.trail.assignment.variables ≡ old.trail.assignment.variables → new.chains.items ≡ old.chains.items → IsSearch m conflicts new pool
  search_on new prepared same chains = record {
    prepared = prepared;
    variables = same ∙ h.variables;
    learning = subst (IsLearning (miter_clauses m) pool) (sym chains) h.learning;
    few = subst (λ cs. length cs ≤ conflicts) (sym chains) h.few;
    begins = h.begins;
  }

  -- the same after a restart
  pub restarted : (new : Search) → IsSearchReady new pool → new.trail.assignment.variables ≡ old.trail.assignment.variables → new.chains ≡ old.chains → IsSearch m conflicts new pool
  restarted new prepared same chains = search_on new prepared same (ap (λ (v : Vec ChainView Global). v.items) chains)

  -- the pool has room for another clause
  pub room_left : length old.chains.items < conflicts → length (miter_clauses m) + conflicts < 2 ^ 32 → length pool + 1 < 2 ^ 32
  room_left left few = omega (arith, learning_long (miter_clauses m) pool old.chains.items h.learning, left, few)

  -- one more clause is learned
  pub search_more : (mid new : Search) (more : List Clause) → mid.trail.assignment.variables ≡ old.trail.assignment.variables → mid.chains.items ≡ old.chains.items → LearnsClause mid pool new more → BeginsWith more pool → length old.chains.items < conflicts
      → IsSearch m conflicts new more
  search_more mid new more same chains l begins left = record {
    prepared = l.prepared;
    variables = l.variables ∙ (same ∙ h.variables);
    learning = l.learning (miter_clauses m) (subst (IsLearning (miter_clauses m) pool) (sym chains) h.learning);
    few = omega (arith, l.count, ap length chains, left);
    begins = begins_through more pool (miter_clauses m) begins h.begins;
  }

  -- all clauses of the pool after the miter's were learned
  pub learned_so_far : HasLearned (miter_clauses m) conflicts pool
  learned_so_far = learned_within (miter_clauses m) pool old.chains.items conflicts h.learning h.few

  pub learned_then : (mid : Search) (more : List Clause) → mid.chains.items ≡ old.chains.items → LearnsAtMost mid pool more → length old.chains.items < conflicts → HasLearned (miter_clauses m) conflicts more
  learned_then mid more chains l left = l (miter_clauses m) conflicts (subst (IsLearning (miter_clauses m) pool) (sym chains) h.learning) (omega (arith, ap length chains, left))
