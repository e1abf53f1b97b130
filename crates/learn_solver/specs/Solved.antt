-- What the solver returns for a pair of faults.
use Rattle.std.specs.Prelude.{ℕ, ◌≤◌, Bool, List, ◌++◌, length}
use Rattle.net_model.specs.declared.fault.Fault.{Fault}
use Rattle.net_model.specs.Circuit.{Circuit}
use Rattle.net_model.specs.Answer.{Separates}
use Rattle.clause_pool.specs.Clauses.{Clause}
use Rattle.pair_miter.specs.ChainView.{ChainView}
use Rattle.pair_miter.specs.Log.{NamesNoLiteral, IsRefutation, IsSpentLog}
use Rattle.pair_miter.specs.Miter.{miter}
use Rattle.pair_miter.specs.Resolution.{AreAlike}
use Rattle.learn_solver.specs.declared.solved.Solved.{Solved}
use Rattle.learn_solver.specs.declared.solved.Solved.TheVariants.{Vector, Refuted, Spent}

-- The log refutes the clauses, none of its chains names a literal, and the pool has the clauses and after them the
-- ends before the empty one.
pub record HasRefutation (clauses : List Clause) (conflicts : ℕ) (pool : List Clause) (log : List ChainView) : Type 0 where
  pub refutation : IsRefutation clauses conflicts log
  pub bare : NamesNoLiteral log
  pub alike : AreAlike (clauses ++ refutation.ends) pool

-- The log has as many fresh ends as the budget allows, and the pool has the clauses and these ends after them.
pub record HasSpentLog (clauses : List Clause) (conflicts : ℕ) (pool : List Clause) (log : List ChainView) : Type 0 where
  pub spent : IsSpentLog clauses conflicts log
  pub alike : AreAlike (clauses ++ spent.ends) pool

-- The clauses of the pool after these ones were learned: they are the fresh ends of a log within the budget, and no
-- other clauses.
pub record HasLearned (clauses : List Clause) (conflicts : ℕ) (pool : List Clause) : Type 0 where
  pub log : List ChainView
  pub few : length log ≤ conflicts
  pub learned : HasSpentLog clauses (length log) pool log

-- The vector separates the faults, and the pool has the miter's clauses and those that were learned before the vector
-- was found.
pub record HasSeparatingVector (c : Circuit) (f g : Fault) (conflicts : ℕ) (pool : List Clause) (v : List Bool) : Type 0 where
  pub separates : Separates c v f g
  pub learned : HasLearned (miter c f g) conflicts pool

-- What the solver returns for a pair of faults and a budget, with the clauses that the pool then has.
abbrev pub IsSolved : Circuit → Fault → Fault → ℕ → List Clause → Solved → Type 0
IsSolved c f g conflicts pool (Vector v) = HasSeparatingVector c f g conflicts pool v
IsSolved c f g conflicts pool (Refuted log) = HasRefutation (miter c f g) conflicts pool log
IsSolved c f g conflicts pool (Spent log) = HasSpentLog (miter c f g) conflicts pool log
