-- A tree of answers for each lane, and the nodes at which places are.
use Rattle.std.specs.Prelude.{◌≡◌, ℕ, ◌+◌, ◌*◌, ◌%◌, ◌<◌, ◌≤◌, ◌^◌, Bool, not, List, [], ◌∷◌, length, slice_index, slice_index_or, slice_set, if◌then◌else◌}
use Rattle.net_model.specs.Answer.{bit_at}
use Rattle.answer_numbers.specs.declared.trees.Node.{Node}
use Rattle.answer_numbers.specs.declared.trees.LaneTrees.{LaneTrees}
use Rattle.answer_numbers.specs.Descents.{descended}

-- what is read past the last node
abbrev pub no_node : Node
no_node = record { above = 0; position = 0; turn = 0; child = 0 }

abbrev pub node_at : List Node → ℕ → Node
node_at nodes n = slice_index_or nodes n no_node

-- the way up from a node: its positions, and the lane to whose root it leads
pub record Way : Type 0 where
  pub positions : List ℕ
  pub lane : ℕ

abbrev pub way_with : List ℕ → ℕ → Way
way_with positions lane = record { positions = positions; lane = lane }

-- the way up from the node below for a position
abbrev pub longer_way : ℕ → Way → Way
longer_way position way = way_with (position ∷ way.positions) way.lane

-- the way up from a node, if the first `lanes` nodes are roots
abbrev pub way_of : ℕ → List Node → ℕ → Way
way_of lanes nodes n = descended lanes (λ k. (node_at nodes k).above) (λ k. way_with [] k) (λ k way. longer_way (node_at nodes k).position way) n

-- The `child` of the node is a node below it, and the node's `turn` is one more than the child's position.
pub record IsLastChild (lanes : ℕ) (nodes : List Node) (n : ℕ) : Type 0 where
  pub node : lanes ≤ (node_at nodes n).child
  pub within : (node_at nodes n).child < length nodes
  pub above : (node_at nodes (node_at nodes n).child).above ≡ n
  pub position : (node_at nodes (node_at nodes n).child).position + 1 ≡ (node_at nodes n).turn

-- There are fewer than 2^32 nodes, and the first `lanes` are roots. Each other is below an earlier one, for a position
-- that no other node below that one has. Each node knows the node below it for the last position for which it has one,
-- and no `turn` is above `limit`.
pub record IsForest (lanes limit : ℕ) (nodes : List Node) : Type 0 where
  pub roots : lanes ≤ length nodes
  pub few : length nodes < 2 ^ 32
  pub lower : (n : ℕ) → lanes ≤ n → n < length nodes → (node_at nodes n).above < n
  pub apart : (m n : ℕ) → lanes ≤ m → m < length nodes → lanes ≤ n → n < length nodes → (node_at nodes m).above ≡ (node_at nodes n).above → (node_at nodes m).position ≡ (node_at nodes n).position → m ≡ n
  pub last : (n : ℕ) → n < length nodes → 0 < (node_at nodes n).turn → IsLastChild lanes nodes n
  pub known : (n : ℕ) → lanes ≤ n → n < length nodes → (node_at nodes n).position < (node_at nodes (node_at nodes n).above).turn
  pub low : (n : ℕ) → n < length nodes → (node_at nodes n).turn ≤ limit

-- The nodes are such a forest, and each cell is at one of them.
pub record AreTrees (limit : ℕ) (t : LaneTrees) : Type 0 where
  pub forest : IsForest t.lanes limit t.nodes.items
  pub within : (cell : ℕ) → cell < length t.stands.items → slice_index t.stands.items cell < length t.nodes.items

-- the way up from the node of a cell
abbrev pub way_at : LaneTrees → ℕ → Way
way_at t cell = way_of t.lanes t.nodes.items (slice_index t.stands.items cell)

-- There are `lanes` trees of their roots alone, and each of `places` places is at the root in each lane.
pub record AreBareTrees (lanes places : ℕ) (t : LaneTrees) : Type 0 where
  pub lanes_are : t.lanes ≡ lanes
  pub cells : length t.stands.items ≡ places * lanes
  pub trees : AreTrees 0 t
  pub ways : (cell : ℕ) → cell < places * lanes → way_at t cell ≡ way_with [] (cell % lanes)

-- The child is the node below `node` for `position`. The cells and the ways of all old nodes are as before.
pub record HasChild (node position : ℕ) (old new : LaneTrees) (child : ℕ) : Type 0 where
  pub lanes : new.lanes ≡ old.lanes
  pub stands : new.stands.items ≡ old.stands.items
  pub more : length old.nodes.items ≤ length new.nodes.items
  pub forest : IsForest old.lanes (position + 1) new.nodes.items
  pub within : child < length new.nodes.items
  pub here : way_of old.lanes new.nodes.items child ≡ longer_way position (way_of old.lanes old.nodes.items node)
  pub others : (n : ℕ) → n < length old.nodes.items → way_of old.lanes new.nodes.items n ≡ way_of old.lanes old.nodes.items n

-- The marked cells are one node further down, by `position`, and the others are where they were.
pub record AreGrown (position : ℕ) (marks : ℕ → Bool) (old new : LaneTrees) : Type 0 where
  pub lanes : new.lanes ≡ old.lanes
  pub cells : length new.stands.items ≡ length old.stands.items
  pub trees : AreTrees (position + 1) new
  pub ways : (cell : ℕ) → cell < length old.stands.items → way_at new cell ≡ (if marks cell then longer_way position (way_at old cell) else way_at old cell)

-- the bits after those at the given places were turned, one after another
abbrev pub turned : List ℕ → List Bool → List Bool
turned [] bits = bits
turned (at ∷ more) bits = turned more (slice_set bits at (not (bit_at bits at)))
