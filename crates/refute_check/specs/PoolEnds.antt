-- What a check of a log leaves in the pool.
use Rattle.std.specs.Prelude.{◌≡◌, ℕ, List, ◌++◌, take, Some}
use Rattle.clause_pool.specs.Clauses.{Clause}
use Rattle.pair_miter.specs.ChainView.{ChainView}
use Rattle.pair_miter.specs.Resolution.{AreAlike, log_ends}
use Rattle.evidence_rules.specs.declared.refusal.Refusal.{Refusal}
use Rattle.evidence_rules.specs.declared.refusal.RefusalKind.{RefusalKind}
use Rattle.evidence_rules.specs.declared.refusal.RefusalKind.TheVariants.{NoSuchClause, NoPivot, NotEmpty, EmptyEarly, NotFresh, LeafOpen, BadTree, WrongCount}

-- As sets of literals, the pool has the clauses, and after them the ends of the log's first `count` chains, and no
-- other clause.
pub record HasEndsOf (clauses : List Clause) (log : List ChainView) (count : ℕ) (pool : List Clause) : Type 0 where
  pub ends : List Clause
  pub are : log_ends clauses (take count log) ≡ Some ends
  pub alike : AreAlike (clauses ++ ends) pool

-- The pool has the clauses, and after them the ends of some number of the log's first chains.
abbrev pub HasSomeEnds : List Clause → List ChainView → List Clause → Type 0
HasSomeEnds clauses log pool = (count : ℕ) × HasEndsOf clauses log count pool

-- How many chains were found right before a log is refused: none for a wrong number of chains, else those before the
-- named one.
abbrev pub chains_before : RefusalKind → ℕ → ℕ
chains_before NoSuchClause step = step
chains_before NoPivot step = step
chains_before NotEmpty step = step
chains_before EmptyEarly step = step
chains_before NotFresh step = step
chains_before LeafOpen step = step
chains_before BadTree step = step
chains_before WrongCount step = 0

-- How many chains were found right before a log is refused so.
abbrev pub right_chains : Refusal → ℕ
right_chains refusal = chains_before refusal.kind refusal.step
