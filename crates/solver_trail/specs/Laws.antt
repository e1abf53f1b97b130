-- A law of trails and pools.
use Rattle.std.specs.Prelude.{List}
use Rattle.clause_pool.specs.Clauses.{Clause, BeginsWith}
use Rattle.solver_trail.specs.Trail.{TrailState, Fits}

-- A trail that fits a pool fits every pool that begins with the same clauses.
abbrev pub FitsLonger : Type 0
FitsLonger = (trail : TrailState) (clauses first : List Clause) → BeginsWith clauses first → Fits trail first → Fits trail clauses
