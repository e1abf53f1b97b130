-- Laws of the pair sets.
use Rattle.std.specs.Prelude.{◌≡◌, ◌≢◌, ℕ, ◌<◌, ◌^◌, Bool, true, List, length, IsSome, IsTrue, Some}
use Rattle.net_model.specs.declared.fault.Fault.{Fault}
use Rattle.net_model.specs.Circuit.{Circuit, IsCircuit, line_count}
use Rattle.net_model.specs.Answer.{bit_at, Agrees, IsAnswer, Separates, AreEqual}
use Rattle.net_model.specs.Scope.{is_relevant}
use Rattle.pair_sets.specs.PairSet.{PairSet}
use Rattle.pair_sets.specs.declared.state.PairState.{PairState}
use Rattle.pair_sets.specs.declared.state.PairState.TheVariants.{AllSame, Apart, Undecided}
use Rattle.pair_sets.specs.declared.tree.Token.{Token}
use Rattle.pair_sets.specs.declared.tree.Token.TheVariants.{Closed}
use Rattle.pair_sets.specs.Cube.{Cube, InCube, fixed_bit, IsClosed}
use Rattle.pair_sets.specs.Tree.{cube_at, token_at, IsLeafAt, HasTreeShape, IsTree, IsCovering, IsSpending}
use Rattle.pair_sets.specs.PairSet.{has_pair}
use Rattle.pair_sets.specs.CubeState.{set_at, ArePairSets, IsState}

-- The sets cover the real pairs: under each vector of the cube the pair of a line's two bits is in its set.
abbrev pub SetsCover : Type 0
SetsCover = (c : Circuit) (f g : Fault) (cube : Cube) (v x y : List Bool) (sets : List PairSet) (line : ℕ) → IsCircuit c → InCube cube v → Agrees c f v x → Agrees c g v y
    → ArePairSets c f g cube sets → line < line_count c → has_pair (set_at sets line) (bit_at x line) (bit_at y line) ≡ true

-- No vector of a cube that is all same separates the faults.
abbrev pub AllSameClosed : Type 0
AllSameClosed = (c : Circuit) (f g : Fault) (cube : Cube) → IsCircuit c → IsState c f g cube AllSame → IsClosed c f g cube

-- The answers to the vector under the two faults differ at the position.
abbrev pub DifferAt : Circuit → Fault → Fault → List Bool → ℕ → Type 0
DifferAt c f g v at = (first second : List Bool) → IsAnswer c f v first → IsAnswer c g v second → bit_at first at ≢ bit_at second at

-- The vector separates the faults, and the two answers differ at the position, which is one of the circuit.
pub record IsApart (c : Circuit) (f g : Fault) (v : List Bool) (at : ℕ) : Type 0 where
  pub position : at < length c.positions
  pub differ : DifferAt c f g v at
  pub separates : Separates c v f g

-- Each vector of an apart cube that is as wide as the circuit separates the faults, and the answers differ at the
-- position that is named.
abbrev pub ApartSeparates : Type 0
ApartSeparates = (c : Circuit) (f g : Fault) (cube : Cube) (v : List Bool) (at : ℕ) → IsCircuit c → length v ≡ c.sources → IsState c f g cube (Apart at) → InCube cube v → IsApart c f g v at

-- If all relevant sources are fixed, the cube isn't undecided.
abbrev pub FixedDecided : Type 0
FixedDecided = (c : Circuit) (f g : Fault) (cube : Cube) → IsCircuit c → ((source : ℕ) → source < c.sources → IsTrue (is_relevant c f g source) → IsSome (fixed_bit cube source)) → ¬ IsState c f g cube Undecided

-- A cube has at most one state.
abbrev pub OneState : Type 0
OneState = (c : Circuit) (f g : Fault) (cube : Cube) (s t : PairState) → IsCircuit c → IsState c f g cube s → IsState c f g cube t → s ≡ t

-- Whatever the leaves of a tree say, no vector lies in the cubes of two of them.
abbrev pub LeavesApart : Type 0
LeavesApart = (c : Circuit) (tokens : List Token) (v : List Bool) (at other : ℕ) (here there : Cube) → HasTreeShape c tokens → IsLeafAt tokens at here → IsLeafAt tokens other there
    → InCube here v → InCube there v → at ≡ other

-- The vector lies in the cube of some leaf.
pub record LiesInLeaf (tokens : List Token) (v : List Bool) : Type 0 where
  pub at : ℕ
  pub cube : Cube
  pub leaf : IsLeafAt tokens at cube
  pub inside : InCube cube v

-- Whatever the leaves of a tree say, each vector lies in the cube of one of them.
abbrev pub LeavesCover : Type 0
LeavesCover = (c : Circuit) (tokens : List Token) (v : List Bool) → HasTreeShape c tokens → LiesInLeaf tokens v

-- Some vector as wide as the circuit lies in the cube.
pub record HasVector (c : Circuit) (cube : Cube) : Type 0 where
  pub vector : List Bool
  pub width : length vector ≡ c.sources
  pub inside : InCube cube vector

-- Whatever the leaves of a tree say, the cube of each of them has a vector.
abbrev pub NoLeafEmpty : Type 0
NoLeafEmpty = (c : Circuit) (tokens : List Token) (at : ℕ) (cube : Cube) → HasTreeShape c tokens → IsLeafAt tokens at cube → HasVector c cube

-- No vector of the cube of a closed leaf of a tree separates the faults.
abbrev pub LeavesClosed : Type 0
LeavesClosed = (c : Circuit) (f g : Fault) (tokens : List Token) (at : ℕ) (cube : Cube) → IsCircuit c → IsTree c f g tokens → at < length tokens → token_at tokens at ≡ Closed → cube_at tokens at ≡ Some cube → IsClosed c f g cube

-- The faults of a tree without an open leaf are equal.
abbrev pub CoveringEqual : Type 0
CoveringEqual = (c : Circuit) (f g : Fault) (limit : ℕ) (tokens : List Token) → IsCircuit c → IsCovering c f g limit tokens → AreEqual c f g

-- A limit is spent only if it is less than the number of vectors: as many closed leaves as there are vectors leave none
-- open.
abbrev pub SpendingBounded : Type 0
SpendingBounded = (c : Circuit) (f g : Fault) (limit : ℕ) (tokens : List Token) → IsCircuit c → IsSpending c f g limit tokens → limit < 2 ^ c.sources
