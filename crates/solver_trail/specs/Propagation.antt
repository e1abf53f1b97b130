-- What propagation finds and keeps.
use Rattle.std.specs.Prelude.{◌≡◌, ◌≢◌, ◌⊎◌, ℕ, ◌+◌, ◌*◌, List, ◌++◌, length, Contains, Option, Some, MatchOption}
use Rattle.clause_pool.specs.Literal.{Literal, opposite}
use Rattle.clause_pool.specs.Clauses.{Clause, numbered_clause}
use Rattle.clause_pool.specs.Partial.{IsSatisfied}
use Rattle.solver_trail.specs.declared.propagation.Attached.{Attached}
use Rattle.solver_trail.specs.declared.set_literals.SetLiteral.{SetLiteral}
use Rattle.solver_trail.specs.declared.watches.Watches.{Watches}
use Rattle.solver_trail.specs.Assignment.{Assignment, assigned_literals}
use Rattle.solver_trail.specs.Trail.{TrailState, AreAttached, AreReasons, IsFalseClause}
use Rattle.solver_trail.specs.Watches.{AreWatching, EachWatch, IsAhead, IsWatchAmong, watched_literals}

-- The numbers of the attached clauses.
abbrev pub numbers_attached : Attached → List ℕ
numbers_attached attached = attached.short.items ++ attached.long.items

-- What contracts see of a trail.
abbrev pub trail_state : Assignment → Attached → Watches → TrailState
trail_state a attached w = record { assignment = a; short = attached.short.items; long = attached.long.items; watched = watched_literals w }

-- The clauses of these numbers are satisfied by the set literals.
abbrev pub AreSatisfied : List Literal → List ℕ → List Clause → Type 0
AreSatisfied assigned_literals numbers clauses = (number : ℕ) (clause : Clause) → Contains numbers number → numbered_clause clauses number ≡ Some clause
    → IsSatisfied assigned_literals clause

-- The number is that of an attached clause, and all literals of the clause are false.
abbrev pub IsConflict : List ℕ → List Clause → List Literal → ℕ → Type 0
IsConflict numbers clauses assigned_literals number =
    Contains numbers number × ((clause : Clause) → numbered_clause clauses number ≡ Some clause → IsFalseClause assigned_literals clause)

-- If the reasons of the old literals are attached clauses, and clause `number` is attached too, then so are the
-- reasons of the new literals.
abbrev pub KeepsReasons : ℕ → List Clause → List SetLiteral → List SetLiteral → Type 0
KeepsReasons number clauses old new = (attached : List ℕ) → Contains attached number → AreReasons attached clauses old → AreReasons attached clauses new

-- All literals of the clause other than `other` are false.
abbrev pub AreOthersFalse : List Literal → Clause → Literal → Type 0
AreOthersFalse assigned_literals clause other = (l : Literal) → Contains clause l → l ≢ other → Contains assigned_literals (opposite l)

-- The clause holds `l`, which differs from `other` and isn't false.
pub record IsOpenOther (assigned_literals : List Literal) (clause : Clause) (other l : Literal) : Type 0 where
  pub inside : Contains clause l
  pub apart : l ≢ other
  pub not_false : ¬ Contains assigned_literals (opposite l)

-- What is watched in place of `lit`, which is false: `lit` itself, if the clause's other watched literal is true, or
-- another literal of the clause that isn't false.
abbrev pub IsRewatch : List Literal → Clause → Literal → Literal → Literal → Type 0
IsRewatch assigned_literals clause lit other target = ((target ≡ lit) × Contains assigned_literals other) ⊎ IsOpenOther assigned_literals clause other target

-- What a visit returns for the clause of this number: the literal that it watches next, or none if all its literals
-- are false.
abbrev pub IsVisited : List Clause → ℕ → List Literal → Literal → Literal → Option Literal → Type 0
IsVisited clauses number assigned_literals lit other target = (clause : Clause) → numbered_clause clauses number ≡ Some clause
    → MatchOption target (IsFalseClause assigned_literals clause) (IsRewatch assigned_literals clause lit other)

-- The attached clauses are in the pool, and the reasons of the set literals are among them. Two literals of each
-- clause of two or more are watched, and each literal has a list.
pub record HasWatches (attached : Attached) (clauses : List Clause) (a : Assignment) (w : Watches) : Type 0 where
  pub in_pool : AreAttached a.variables (numbers_attached attached) clauses
  pub reasons : AreReasons (numbers_attached attached) clauses a.literals
  pub watching : AreWatching attached.long.items clauses (watched_literals w)
  pub size : length (watched_literals w) ≡ 2 * length attached.long.items
  pub codes : length w.firsts.items ≡ 2 * a.variables + 2

-- The list of a literal is visited up to a last watch that stays: at each watch of the literal that isn't ahead the
-- partner's literal is true.
pub record IsWatchWalk (attached : Attached) (clauses : List Clause) (lit : Literal) (a : Assignment) (w : Watches) (last : Option ℕ) : Type 0 where
  pub watches : HasWatches attached clauses a w
  pub ahead : IsAhead w lit last
  pub seen : EachWatch (λ watch l other. l ≡ lit → Contains (assigned_literals a) other ⊎ IsWatchAmong ahead.rest watch) (watched_literals w)

-- At each watch of the literal the partner's literal is true.
abbrev pub ArePartnersTrue : Literal → Assignment → Watches → Type 0
ArePartnersTrue lit a w = EachWatch (λ watch l other. l ≡ lit → Contains (assigned_literals a) other) (watched_literals w)
