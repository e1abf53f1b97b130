-- What is true of the fields of every trail.
use Rattle.std.specs.Prelude.{◌≡◌, ℕ, ◌+◌, ◌*◌, ◌≤◌, [], length}
use Rattle.solver_trail.specs.declared.watches.Watches.{Watches}
use Rattle.solver_trail.specs.Assignment.{Assignment, IsTrail}
use Rattle.solver_trail.specs.Watches.{AreInLists, AreKept, watched_literals}

-- The watches are in their lists, one for each literal. If a watched literal is false by one of the first `visited`
-- set literals, the partner's literal is true and of no higher level.
pub record AreWatchesReady (a : Assignment) (w : Watches) (visited : ℕ) : Type 0 where
  pub trail : IsTrail a
  pub listed : AreInLists w []
  pub codes : length w.firsts.items ≡ 2 * a.variables + 2
  pub kept : AreKept a.literals visited visited (watched_literals w)
  pub reached : visited ≤ length a.literals
