-- Logs in which each chain is used.
use Rattle.std.specs.Prelude.{◌≡◌, ◌<◌, ◌+◌, ◌⊎◌, ℕ, List, length, slice_get, Some, Contains}
use Rattle.clause_pool.specs.Literal.{Literal}
use Rattle.pair_miter.specs.ChainView.{ChainView}

-- The chain begins with the clause of this number, or resolves with it.
abbrev pub UsesClause : ChainView → ℕ → Type 0
UsesClause chain number = (chain.start ≡ number) ⊎ ((pivot : Literal) × Contains chain.steps (pivot, number))

-- Over `count` clauses, the end of each chain except the last is used by a later one.
abbrev pub IsEachUsed : ℕ → List ChainView → Type 0
IsEachUsed count log = (at : ℕ) → at + 1 < length log → (later : ℕ) × (chain : ChainView) × (at < later) × (slice_get log later ≡ Some chain) × UsesClause chain (count + at + 1)
