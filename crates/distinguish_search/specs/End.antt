-- How a descent ends.
use Rattle.std.specs.Prelude.{◌≡◌, ℕ, Bool, false, if◌then◌else◌}
use Rattle.net_model.specs.declared.fault.Fault.{Fault}
use Rattle.net_model.specs.Circuit.{Circuit}
use Rattle.pair_sets.specs.declared.state.PairState.TheVariants as state
use Rattle.pair_sets.specs.declared.tree.Token.{Token}
use Rattle.pair_sets.specs.declared.tree.Token.TheVariants.{Closed, Rest}
use Rattle.pair_sets.specs.Cube.{Cube}
use Rattle.pair_sets.specs.CubeState.{IsState}
use Rattle.distinguish_search.specs.declared.end.End.{End}
use Rattle.distinguish_search.specs.declared.end.End.TheVariants.{Leaf, Apart}

-- The cube of a leaf is all same, unless no further leaf may be closed (`full`). A cube that ends apart is apart at
-- some position.
abbrev pub IsSearchEnd : Circuit → Fault → Fault → Cube → Bool → End → Type 0
IsSearchEnd c f g cube full Leaf = full ≡ false → IsState c f g cube state.AllSame
IsSearchEnd c f g cube full Apart = (at : ℕ) × IsState c f g cube (state.Apart at)

-- the leaf of a cube at which a descent ends: an open one if no further leaf may be closed, else a closed one
abbrev pub leaf_token : Bool → Token
leaf_token full = if full then Rest else Closed
