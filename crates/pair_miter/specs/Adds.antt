-- What writing clauses does to a pool.
use Rattle.std.specs.Prelude.{◌≡◌, ◌≤◌, List, ◌++◌, length, max, Result, Ok, Err}
use Rattle.clause_pool.specs.Clauses.{BeginsWith, Clause, Clauses, literal_count, clause_places, literal_places}

-- The pool has at least as many places for clauses as before, used and spare ones together, and at least as many for
-- literals.
pub record KeepsPlaces (old new : Clauses) : Type 0 where
  pub of_clauses : clause_places old ≤ clause_places new
  pub of_literals : literal_places old ≤ literal_places new

-- The pool lost no places, and grew only if it had too few for these clauses, to no more than they need.
pub record GrowsFor (old new : Clauses) (clauses : List Clause) : Type 0 where
  pub kept : KeepsPlaces old new
  pub clauses_needed : clause_places new ≤ max (clause_places old) (length clauses)
  pub literals_needed : literal_places new ≤ max (literal_places old) (literal_count clauses)

-- The clauses follow the old ones, and the pool grew only if it had too few places for all of them.
pub record Adds (old new : Clauses) (clauses : List Clause) : Type 0 where
  pub written : new.clauses ≡ old.clauses ++ clauses
  pub places : GrowsFor old new (old.clauses ++ clauses)

-- The old clauses are as before, others may follow them, and the pool grew only if it had too few places for these
-- clauses after the old ones.
pub record KeepsClauses (old new : Clauses) (clauses : List Clause) : Type 0 where
  pub begins : BeginsWith new.clauses old.clauses
  pub places : GrowsFor old new (old.clauses ++ clauses)

-- A call with this result has added the clauses; after an error it has kept the old ones, and perhaps added others.
abbrev pub WritesClauses : {T E : Type 0} → Result T E → Clauses → Clauses → List Clause → Type 0
WritesClauses (Ok x) old new clauses = Adds old new clauses
WritesClauses (Err e) old new clauses = KeepsClauses old new clauses

-- The old clauses are as before, others may follow them, and the pool grew only if it had too few places for all of
-- them.
pub record Grows (old new : Clauses) : Type 0 where
  pub begins : BeginsWith new.clauses old.clauses
  pub places : GrowsFor old new new.clauses
