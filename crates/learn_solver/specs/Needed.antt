-- Which chains the last one needs, and their new numbers.
use Rattle.std.specs.Prelude.{◌≡◌, ◌≢◌, ◌<◌, ◌≤◌, ◌+◌, ◌-◌, ◌⊎◌, ℕ, Bool, true, false, List, [], length, map, take, All, slice_get, slice_index_or, unwrap_or, Some, nat_lt, if◌then◌else◌}
use Rattle.clause_pool.specs.Clauses.{Clause}
use Rattle.pair_miter.specs.ChainView.{ChainView}
use Rattle.pair_miter.specs.Resolution.{log_ends}
use Rattle.learn_solver.specs.Trimmed.{UsesClause}

-- The chain at this place is marked.
abbrev pub IsNeededAt : List Bool → ℕ → Type 0
IsNeededAt marks at = slice_index_or marks at false ≡ true

-- The end of the chain at this place is used by the last chain, or by a marked chain after it.
abbrev pub IsUsedBehind : ℕ → List ChainView → ChainView → List Bool → ℕ → Type 0
IsUsedBehind count chains last marks at = UsesClause last (count + at + 1)
    ⊎ ((later : ℕ) × (chain : ChainView) × (at < later) × IsNeededAt marks later × (slice_get chains later ≡ Some chain) × UsesClause chain (count + at + 1))

-- Exactly those chains are marked whose ends are used by the last chain or by a later marked one.
pub record AreNeeded (count : ℕ) (chains : List ChainView) (last : ChainView) (marks : List Bool) : Type 0 where
  pub whole : length marks ≡ length chains
  pub all : (at : ℕ) → at < length chains → IsUsedBehind count chains last marks at → IsNeededAt marks at
  pub only : (at : ℕ) → IsNeededAt marks at → IsUsedBehind count chains last marks at

-- The new number of a clause, by the new numbers of the ends, which come after `count` clauses.
abbrev pub number_after : ℕ → List ℕ → ℕ → ℕ
number_after count numbers number = if nat_lt count number then unwrap_or (slice_get numbers (number - count - 1)) number else number

-- The chain with the new numbers of the clauses that it uses.
abbrev pub renumbered_chain : ℕ → List ℕ → ChainView → ChainView
renumbered_chain count numbers chain = record {
  start = number_after count numbers chain.start;
  fresh_at = chain.fresh_at;
  steps = map (λ step. (step.0, number_after count numbers step.1)) chain.steps;
}

-- The end of the chain at place `at` of the one log is that of the chain at place `place` of the other.
abbrev pub IsEndAt : ℕ → List ℕ → ℕ → ℕ → Type 0
IsEndAt count numbers at place = slice_get numbers at ≡ Some (count + place + 1)

-- The log consists of the marked ones of the first `upto` chains, in order and with new numbers.
pub record IsTrimmedTo (count : ℕ) (chains : List ChainView) (marks : List Bool) (upto : ℕ) (numbers : List ℕ) (short : List ChainView) : Type 0 where
  pub whole : length numbers ≡ upto
  pub few : length short ≤ upto
  pub placed : (at : ℕ) (chain : ChainView) → at < upto → IsNeededAt marks at → slice_get chains at ≡ Some chain
      → (place : ℕ) × IsEndAt count numbers at place × (slice_get short place ≡ Some (renumbered_chain count (take at numbers) chain))
  pub onto : (place : ℕ) → place < length short → (at : ℕ) × (at < upto) × IsNeededAt marks at × IsEndAt count numbers at place
  pub within : (at place : ℕ) → IsEndAt count numbers at place → place < length short
  pub ascend : (at later place other : ℕ) → at < later → IsEndAt count numbers at place → IsEndAt count numbers later other → place < other

-- The chains of the log have ends over the clauses, and these are the given ends of the marked chains; they have
-- literals if all given ends do.
pub record HasEnds (count : ℕ) (marks : List Bool) (numbers : List ℕ) (short : List ChainView) (clauses ends : List Clause) : Type 0 where
  pub kept : List Clause
  pub are : log_ends clauses short ≡ Some kept
  pub same : (at place : ℕ) → at < length numbers → IsNeededAt marks at → IsEndAt count numbers at place → slice_index_or kept place [] ≡ slice_index_or ends at []
  pub nonempty : All (λ end. end ≢ []) ends → All (λ end. end ≢ []) kept

-- If the marked chains are those that some last one needs, then whatever the ends of the first chains are over `count`
-- clauses, the log has those of the marked ones.
abbrev pub KeepsEnds : ℕ → List ChainView → List Bool → List ℕ → List ChainView → Type 0
KeepsEnds count chains marks numbers short = (last : ChainView) (clauses ends : List Clause) → AreNeeded count chains last marks → length clauses ≡ count
    → log_ends clauses (take (length numbers) chains) ≡ Some ends → HasEnds count marks numbers short clauses ends
