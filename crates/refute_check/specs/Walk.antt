-- A walk through a tree: at which cube it is, and which cubes still wait.
use Rattle.std.specs.Prelude.{◌≡◌, ℕ, ◌≤◌, true, false, List, [], ◌∷◌, reverse, Option, None, Some, slice_get, Contains, if◌then◌else◌}
use Rattle.net_model.specs.Circuit.{Circuit, IsCircuit}
use Rattle.pair_scope.specs.PairScope.{pair_scope}
use Rattle.pair_sets.specs.declared.tree.Token.{Token}
use Rattle.pair_sets.specs.declared.tree.Token.TheVariants.{Rest}
use Rattle.pair_sets.specs.Cube.{Cube, FixesOnce}
use Rattle.pair_sets.specs.PairSim.{with_cube}
use Rattle.pair_sets.specs.Tree.{IsRightAt, closed_count}
use Rattle.evidence_rules.specs.declared.refusal.EvidenceKind.{EvidenceKind}
use Rattle.evidence_rules.specs.declared.refusal.EvidenceKind.TheVariants.{Covered, Refuted, Spent}
use Rattle.evidence_rules.specs.declared.refusal.RefusalKind.{RefusalKind}
use Rattle.refute_check.specs.declared.tree.Walk.{Walk}
use Rattle.evidence_rules.specs.TreeRefusal.{token_refusal}

-- The second halves of those splits of which the cube is in the first half.
abbrev pub second_halves : Cube → List Cube
second_halves [] = []
second_halves (fixed ∷ cube) = if fixed.1 then second_halves cube else ((fixed.0, true) ∷ cube) ∷ second_halves cube

-- The cube of the walk's path, and the second halves that wait; none if the tree is whole.
abbrev pub waiting_in : Walk → List Cube
waiting_in walk = if walk.whole then [] else reverse walk.path.items ∷ second_halves (reverse walk.path.items)

-- The parts of the walk belong together: its circuit is well-formed, its path is the cube that is simulated, which
-- fixes sources of the circuit once each, its scope is that of the simulated faults, and its sources are the circuit's.
pub record IsTreeWalk (walk : Walk) : Type 0 where
  pub circuit : IsCircuit walk.sim.circuit
  pub stands : walk.sim.cube ≡ reverse walk.path.items
  pub once : FixesOnce walk.sim.circuit.sources walk.sim.cube
  pub scope : walk.scope ≡ pair_scope walk.sim.circuit walk.sim.f walk.sim.g
  pub sources : walk.sources ≡ walk.sim.circuit.sources

-- The walk can go to the root of a tree about faults of this circuit.
pub record IsWalkFor (c : Circuit) (walk : Walk) : Type 0 where
  pub simulated : walk.sim.circuit ≡ c
  pub scoped : walk.scope.circuit ≡ c

-- The token is right for the walk, which isn't at its end.
abbrev pub IsRightIn : Walk → Token → Type 0
IsRightIn walk token = (walk.whole ≡ false) × IsRightAt walk.sim.circuit walk.sim.f walk.sim.g token walk.sim.cube

-- Which rule the token breaks in the walk, or none if it is right.
abbrev pub IsVerdict : Walk → Token → Option RefusalKind → Type 0
IsVerdict walk token None = IsRightIn walk token
IsVerdict walk token (Some kind) = (kind ≡ token_refusal (slice_get (waiting_in walk) 0) token) × ¬ IsRightIn walk token

-- The walk of the same faults has gone on, and these cubes wait.
pub record HasGoneOn (old new : Walk) (cubes : List Cube) : Type 0 where
  pub walk : IsTreeWalk new
  pub same : new.sim ≡ with_cube old.sim new.sim.cube
  pub waiting : waiting_in new ≡ cubes

-- The tree has as many closed leaves, and open ones, as this kind of evidence needs.
abbrev pub AreRightCounts : EvidenceKind → ℕ → List Token → Type 0
AreRightCounts Covered limit tokens = (¬ Contains tokens Rest) × (closed_count tokens ≤ limit)
AreRightCounts Refuted limit tokens = Contains tokens Rest × (closed_count tokens ≡ limit)
AreRightCounts Spent limit tokens = Contains tokens Rest × (closed_count tokens ≡ limit)
