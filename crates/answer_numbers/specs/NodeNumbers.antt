-- The numbers of the nodes at which places are.
use Rattle.std.specs.Prelude.{◌≡◌, ◌≢◌, ◌↔◌, ℕ, ◌+◌, ◌*◌, ◌<◌, ◌≤◌, Bool, List, length, map, slice_index, slice_set, nat_lt, ◌==◌, if◌then◌else◌}
use Rattle.std.specs.List.{range_with_len}
use Rattle.net_model.specs.Rows.{row_at}
use Rattle.answer_numbers.specs.declared.node_numbers.TheConstants.{UNNUMBERED}
use Rattle.answer_numbers.specs.declared.node_numbers.NodeNumbers.{NodeNumbers}
use Rattle.answer_numbers.specs.declared.trees.LaneTrees.{LaneTrees}
use Rattle.answer_numbers.specs.Distinct.{distinct_answers}

-- the node at which a place is in a lane
abbrev pub stand_of : LaneTrees → ℕ → ℕ → ℕ
stand_of t place lane = slice_index t.stands.items (place * t.lanes + lane)

-- The place has a cell for each lane.
abbrev pub IsPlaceOf : LaneTrees → ℕ → Type 0
IsPlaceOf t place = place * t.lanes + t.lanes ≤ length t.stands.items

-- Each place is at a node in each lane, and no node is that of places in two lanes.
pub record HaveOwnLanes (t : LaneTrees) : Type 0 where
  pub within : (place lane : ℕ) → IsPlaceOf t place → lane < t.lanes → stand_of t place lane < length t.nodes.items
  pub apart : (p q l k : ℕ) → IsPlaceOf t p → IsPlaceOf t q → l < t.lanes → k < t.lanes → stand_of t p l ≡ stand_of t q k → l ≡ k

-- Two of the first `done` places have the same answer exactly if they have the same node.
abbrev pub AreToldBy : (ℕ → ℕ) → ℕ → (ℕ → List Bool) → Type 0
AreToldBy node_of done answer_of = (p q : ℕ) → p < done → q < done → (answer_of p ≡ answer_of q) ↔ (node_of p ≡ node_of q)

-- The number of the node of each of the first `done` places is the place of its answer among the distinct answers of
-- these places, and `count` is how many distinct answers there are.
pub record ArePlacesOf (node_of : ℕ → ℕ) (done : ℕ) (numbers : List ℕ) (count : ℕ) (answer_of : ℕ → List Bool) : Type 0 where
  pub count_is : count ≡ length (distinct_answers (map answer_of (range_with_len 0 done)))
  pub own : (place : ℕ) → place < done → row_at (distinct_answers (map answer_of (range_with_len 0 done))) (slice_index numbers (node_of place)) ≡ answer_of place

-- The nodes of the first `done` places have numbers below `count`, which is at most `done`. If the nodes distinguish
-- the answers of these places, the numbers are those of the answers.
pub record AreNodesNumbered (node_of : ℕ → ℕ) (done : ℕ) (numbers : List ℕ) (count : ℕ) : Type 0 where
  pub few : count ≤ done
  pub below : (place : ℕ) → place < done → slice_index numbers (node_of place) < count
  pub places : (answer_of : ℕ → List Bool) → AreToldBy node_of done answer_of → ArePlacesOf node_of done numbers count answer_of

-- In each lane the nodes at which the first places are have numbers, and no others have.
pub record AreNumberedTo (t : LaneTrees) (done : ℕ → ℕ) (n : NodeNumbers) : Type 0 where
  pub nodes : length n.numbers.items ≡ length t.nodes.items
  pub lanes : length n.counts.items ≡ t.lanes
  pub used : (node : ℕ) → node < length t.nodes.items → slice_index n.numbers.items node ≢ UNNUMBERED → (lane : ℕ) × (lane < t.lanes) × ((place : ℕ) × (place < done lane) × (stand_of t place lane ≡ node))
  pub each : (lane : ℕ) → lane < t.lanes → AreNodesNumbered (λ place. stand_of t place lane) (done lane) n.numbers.items (slice_index n.counts.items lane)

-- how many places are done in lane `other`, if `place` is done in the lanes below `lane` and all before it are done in
-- all lanes
abbrev pub done_below : ℕ → ℕ → ℕ → ℕ
done_below place lane other = if nat_lt other lane then place + 1 else place

-- The node has the next number of the lane if it had none, and then the lane has one number more. All else is as
-- before.
pub record HasNodeNumber (node lane : ℕ) (old new : NodeNumbers) : Type 0 where
  pub numbers : new.numbers.items ≡ (if slice_index old.numbers.items node == UNNUMBERED then slice_set old.numbers.items node (slice_index old.counts.items lane) else old.numbers.items)
  pub counts : new.counts.items ≡ (if slice_index old.numbers.items node == UNNUMBERED then slice_set old.counts.items lane (slice_index old.counts.items lane + 1) else old.counts.items)
