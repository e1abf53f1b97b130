-- A search under way, and what it learns.
use Rattle.std.specs.Prelude.{◌≡◌, ◌⊎◌, ℕ, ◌+◌, ◌<◌, ◌≤◌, List, ◌∷◌, [], ◌++◌, map, length, All, Option, None, Some}
use Rattle.clause_pool.specs.Clauses.{Clause, BeginsWith}
use Rattle.clause_pool.specs.Partial.{IsQuiet}
use Rattle.pair_miter.specs.ChainView.{ChainView}
use Rattle.pair_miter.specs.Miter.{miter}
use Rattle.pair_miter.specs.MiterView.{Miter}
use Rattle.pair_miter.specs.Variables.{variable_count}
use Rattle.solver_trail.specs.Assignment.{assigned_literals}
use Rattle.learn_solver.specs.declared.aim.Aim.{Aim}
use Rattle.learn_solver.specs.declared.aim.Aim.TheVariants.{Model}
use Rattle.learn_solver.specs.declared.search.Search.{Search}
use Rattle.learn_solver.specs.declared.step.SolverStep.{SolverStep}
use Rattle.learn_solver.specs.declared.step.SolverStep.TheVariants.{Learned, Open, Refuted}
use Rattle.learn_solver.specs.Decisions.{AreAllSet}
use Rattle.learn_solver.specs.Learning.{IsLearning}
use Rattle.learn_solver.specs.Logs.{without_literal}
use Rattle.learn_solver.specs.Ready.{IsSolverReady}
use Rattle.learn_solver.specs.Solved.{HasLearned, HasRefutation}
use Rattle.learn_solver.specs.Walk.{AreUnmarked}

-- The clauses of the miter.
abbrev pub miter_clauses : Miter → List Clause
miter_clauses m = miter m.circuit m.f m.g

-- The search is ready for a descent over these clauses: its trail is ready, the decider has the trail's variables,
-- and none is marked.
pub record IsSearchReady (search : Search) (clauses : List Clause) : Type 0 where
  pub ready : IsSolverReady search.trail clauses
  pub decider : search.decider ≡ search.trail.assignment.variables
  pub clear : AreUnmarked search.trail.assignment.variables search.marks

-- One more clause is learned, and the search is ready again over the same variables.
pub record LearnsClause (old : Search) (clauses : List Clause) (new : Search) (more : List Clause) : Type 0 where
  pub prepared : IsSearchReady new more
  pub variables : new.trail.assignment.variables ≡ old.trail.assignment.variables
  pub count : length new.chains.items ≡ length old.chains.items + 1
  pub learning : (first : List Clause) → IsLearning first clauses old.chains.items → IsLearning first more new.chains.items

-- The chains that were learned, without the literals that they name, and the last one are a refutation of the first
-- clauses, and the pool has the ends before the empty one.
abbrev pub Refutes : Search → List Clause → ChainView → List Clause → ℕ → Type 0
Refutes search pool last first conflicts = HasRefutation first conflicts pool (map without_literal search.chains.items ++ last ∷ [])

-- One more clause is learned, and the search is ready again; or, with a chain, the chains learned so far and this one
-- refute the first clauses.
abbrev pub Learns : Search → List Clause → Search → List Clause → Option ChainView → Type 0
Learns old clauses new more None = LearnsClause old clauses new more
Learns old clauses new more (Some last) = (first : List Clause) (conflicts : ℕ) → IsLearning first clauses old.chains.items → length old.chains.items ≤ conflicts
    → Refutes new more last first conflicts × HasLearned first conflicts more

-- The clause was added to the end of the list, or nothing was.
abbrev pub AddsAtMost : List Clause → Clause → List Clause → Type 0
AddsAtMost old clause new = (new ≡ old) ⊎ (new ≡ old ++ clause ∷ [])

-- A call that failed has learned at most one more clause: all clauses of the pool after the first ones were learned.
abbrev pub LearnsAtMost : Search → List Clause → List Clause → Type 0
LearnsAtMost old clauses more = (first : List Clause) (conflicts : ℕ) → IsLearning first clauses old.chains.items → length old.chains.items < conflicts → HasLearned first conflicts more

-- The search over the miter of a pair is ready and has learned some clauses, at most `conflicts` of them. They are in
-- the pool, after the miter's.
pub record IsSearch (m : Miter) (conflicts : ℕ) (search : Search) (pool : List Clause) : Type 0 where
  pub prepared : IsSearchReady search pool
  pub variables : search.trail.assignment.variables ≡ variable_count m.circuit m.f m.g
  pub learning : IsLearning (miter_clauses m) pool search.chains.items
  pub few : length search.chains.items ≤ conflicts
  pub begins : BeginsWith pool (miter_clauses m)

-- One more clause is learned; or unit propagation has nothing to do at any clause, and all variables are set if a model
-- is the aim; or the clauses are refuted.
abbrev pub EndsStep : Miter → ℕ → Aim → Search → Search → List Clause → SolverStep → Type 0
EndsStep m conflicts aim old new pool Learned = IsSearch m conflicts new pool × (length new.chains.items ≡ length old.chains.items + 1)
EndsStep m conflicts aim old new pool Open = IsSearch m conflicts new pool × All (IsQuiet (assigned_literals new.trail.assignment)) pool × (aim ≡ Model → AreAllSet new.trail.assignment)
EndsStep m conflicts aim old new pool (Refuted last) = Refutes new pool last (miter_clauses m) conflicts × HasLearned (miter_clauses m) conflicts pool

-- The search can continue; or, with a chain, the clauses are refuted.
abbrev pub EndsSweep : Miter → ℕ → Search → List Clause → Option ChainView → Type 0
EndsSweep m conflicts search pool None = IsSearch m conflicts search pool
EndsSweep m conflicts search pool (Some last) = Refutes search pool last (miter_clauses m) conflicts × HasLearned (miter_clauses m) conflicts pool
