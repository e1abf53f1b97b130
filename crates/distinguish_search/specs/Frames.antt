-- Splits that are under way, the last one first.
use Rattle.std.specs.Prelude.{◌≡◌, ℕ, ◌+◌, ◌-◌, ◌<◌, ◌^◌, Bool, true, false, not, List, [], ◌∷◌, map, length, sum_by, count_by, Option, None, Some, is_some, unwrap_or, ⊤, if◌then◌else◌}
use Rattle.net_model.specs.declared.fault.Fault.{Fault}
use Rattle.net_model.specs.Circuit.{Circuit}
use Rattle.pair_sets.specs.declared.tree.Token.{Token}
use Rattle.pair_sets.specs.declared.tree.Token.TheVariants.{Split, Rest}
use Rattle.pair_sets.specs.Cube.{Cube}
use Rattle.pair_sets.specs.Tree.{IsRightAt, closed_count}
use Rattle.pair_sets.specs.Subtree.{IsSubtree}
use Rattle.pair_sets.specs.PairSim.{PairSim, pair_sim}
use Rattle.distinguish_search.specs.declared.frames.Frame.{Frame}

-- the cube of the bits that are tried
abbrev pub tried_cube : List Frame → Cube
tried_cube frames = map (λ frame. (frame.source, frame.bit)) frames

-- the place of the reached position that asked for the last split, or 0 if there is no split
abbrev pub last_place : List Frame → ℕ
last_place [] = 0
last_place (frame ∷ frames) = frame.place

-- The finished half, if there is one, is a tree of the cube with the source at the other bit.
abbrev pub IsHalf : Circuit → Fault → Fault → Cube → ℕ → Bool → Option (List Token) → Type 0
IsHalf c f g cube source bit None = ⊤
IsHalf c f g cube source bit (Some half) = IsSubtree c f g ((source, not bit) ∷ cube) half

-- Each split is right at its cube, and so is its finished half.
abbrev pub AreFrames : Circuit → Fault → Fault → List Frame → Type 0
AreFrames c f g [] = ⊤
AreFrames c f g (frame ∷ frames) = IsRightAt c f g (Split frame.source) (tried_cube frames) × IsHalf c f g (tried_cube frames) frame.source frame.bit frame.half × AreFrames c f g frames

-- The splits are right, and the simulation is of the two faults under the cube of the splits' bits.
pub record IsUnderWay (c : Circuit) (f g : Fault) (sim : PairSim) (frames : List Frame) : Type 0 where
  pub stands : sim ≡ pair_sim c f g (tried_cube frames)
  pub right : AreFrames c f g frames

-- whether a token is an open leaf
abbrev pub is_open_leaf : Token → Bool
is_open_leaf Rest = true
is_open_leaf _ = false

-- how many open leaves there are
abbrev pub open_leaves : List Token → ℕ
open_leaves tokens = count_by is_open_leaf tokens

-- how many closed leaves the finished halves have
abbrev pub closed_in : List Frame → ℕ
closed_in frames = sum_by (λ frame. closed_count (unwrap_or frame.half [])) frames

-- how many open leaves the finished halves have
abbrev pub open_in : List Frame → ℕ
open_in frames = sum_by (λ frame. open_leaves (unwrap_or frame.half [])) frames

-- how many vectors, of this number of sources, are in second halves that aren't begun
abbrev pub vectors_ahead : ℕ → List Frame → ℕ
vectors_ahead sources [] = 0
vectors_ahead sources (frame ∷ frames) = (if is_some frame.half then 0 else 2 ^ (sources - length (frame ∷ frames))) + vectors_ahead sources frames

-- how many vectors are in the cube and in second halves that aren't begun
abbrev pub vectors_left : ℕ → List Frame → ℕ
vectors_left sources frames = 2 ^ (sources - length frames) + vectors_ahead sources frames

-- The finished halves of the new splits have as many closed and as many open leaves as those of the old ones, and as
-- many vectors are left.
pub record SplitsOn (sources : ℕ) (old new : List Frame) : Type 0 where
  pub closed : closed_in new ≡ closed_in old
  pub left_open : open_in new ≡ open_in old
  pub left : vectors_left sources new ≡ vectors_left sources old

-- `whole` is a tree of the cube of all vectors, with as many closed and as many open leaves as `tree` and the finished
-- halves have together.
pub record IsWholeTree (c : Circuit) (f g : Fault) (tree : List Token) (frames : List Frame) (whole : List Token) : Type 0 where
  pub right : IsSubtree c f g [] whole
  pub closed : closed_count whole ≡ closed_count tree + closed_in frames
  pub left_open : open_leaves whole ≡ open_leaves tree + open_in frames

-- The new splits are under way with fewer vectors left, and their finished halves have as many closed and as many open
-- leaves as `tree` and the old finished halves together.
pub record GoesOn (c : Circuit) (f g : Fault) (tree : List Token) (old : List Frame) (sim : PairSim) (new : List Frame) : Type 0 where
  pub under_way : IsUnderWay c f g sim new
  pub closed : closed_in new ≡ closed_count tree + closed_in old
  pub left_open : open_in new ≡ open_leaves tree + open_in old
  pub fewer : vectors_left c.sources new < vectors_left c.sources old

-- A tree that is returned is the whole one; if none is, the search goes on.
abbrev pub IsClimbed : Circuit → Fault → Fault → List Token → List Frame → PairSim → List Frame → Option (List Token) → Type 0
IsClimbed c f g tree old sim new None = GoesOn c f g tree old sim new
IsClimbed c f g tree old sim new (Some whole) = IsWholeTree c f g tree old whole
