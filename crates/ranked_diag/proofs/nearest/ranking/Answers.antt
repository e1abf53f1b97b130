use Rattle.std.proofs.Common.{◌≤◌, ℕ, List, sym, subst}
use Rattle.std.specs.Prelude.{All}
use Rattle.ranked_diag.specs.Ranked.{IsRanking}
use Rattle.ranked_diag.proofs.NearLemmas.{least-low, is-ranking}
use Rattle.ranked_diag.proofs.nearest.ranking.Goals as goal

pub ranks_near-requires-clause-lowest : goal.ranks_near-requires-clause-lowest
ranks_near-requires-clause-lowest c =
    subst (λ (n : ℕ). All (λ count. n ≤ count) c.as_slice-counts.result.now) (sym c.least_of-lowest.ensures) (least-low c.as_slice-counts.result.now)

pub returns : goal.returns
returns c =
    subst (λ (counts : List ℕ). IsRanking counts c.args.within c.from_ranks.result) c.as_slice-counts.ensures
    (subst (IsRanking c.as_slice-counts.result.now c.args.within) (sym c.from_ranks.ensures)
    (is-ranking c.as_slice-counts.result.now c.args.within c.least_of-lowest.result c.in_ok-ranks.ranks.items _ c.least_of-lowest.ensures c.in_ok-ranks.ensures c.sort_unstable.ensures.permutation c.sort_unstable.ensures.sorted))
