-- Tables of what gates make of sets of pairs.
use Rattle.std.specs.Prelude.{◌≡◌, ◌+◌, ◌*◌, ℕ, List, [], ◌∷◌, length, slice_index}
use Rattle.net_model.specs.declared.operation.Fold.{Fold}
use Rattle.net_model.specs.declared.operation.Operation.TheVariants.{Folded}
use Rattle.pair_sets.specs.PairSet.{PairSet, operation_pairs}
use Rattle.pair_sets.specs.PairSetFields.{number_of}

-- The table has 256 entries. At 16 times the number of `s` plus that of `t` it has the number of the image of the two
-- sets under the fold.
pub record AreImages (fold : Fold) (images : List ℕ) : Type 0 where
  pub whole : length images ≡ 256
  pub each : (s t : PairSet) → slice_index images (16 * number_of s + number_of t) ≡ number_of (operation_pairs (Folded fold) (s ∷ t ∷ []))
