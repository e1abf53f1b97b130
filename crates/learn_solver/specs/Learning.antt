-- What is known of the chains of learned clauses.
use Rattle.std.specs.Prelude.{◌≡◌, ◌≢◌, ℕ, List, [], ◌++◌, take, All, Some, slice_get}
use Rattle.clause_pool.specs.Clauses.{Clause}
use Rattle.pair_miter.specs.ChainView.{ChainView}
use Rattle.pair_miter.specs.Log.{EndsFresh}
use Rattle.pair_miter.specs.Resolution.{AreAlike, log_ends}

-- The chains end in clauses with literals, each fresh over the first clauses and the ends before it, and the pool has
-- the first clauses and these ends after them.
pub record IsLearning (first pool : List Clause) (chains : List ChainView) : Type 0 where
  pub ends : List Clause
  pub are : log_ends first chains ≡ Some ends
  pub alike : AreAlike (first ++ ends) pool
  pub nonempty : All (λ end. end ≢ []) ends
  pub fresh : (at : ℕ) (chain : ChainView) (end : Clause) → slice_get chains at ≡ Some chain → slice_get ends at ≡ Some end → EndsFresh (first ++ take at ends) chain end
