-- What settles a number and its representative: a cube whose vectors separate them, or evidence.
use Rattle.std.specs.Prelude.{◌≡◌, ◌⊎◌, ◌≢◌, ◌<◌, ℕ, Bool, true, Option, Some, None, IfSome, slice_index_or, List, [], ◌∷◌, length, All}
use Rattle.net_model.specs.declared.fault.Fault.{Fault}
use Rattle.net_model.specs.Circuit.{Circuit}
use Rattle.net_model.specs.Answer.{bit_at, Separates}
use Rattle.net_model.specs.Scope.{is_relevant}
use Rattle.net_model.specs.Collapse.{root}
use Rattle.net_model.specs.FaultList.{fault_count, fault_numbered}
use Rattle.pair_sets.specs.declared.tree.Token.{Token}
use Rattle.pair_sets.specs.declared.tree.Token.TheVariants.{Rest}
use Rattle.pair_sets.specs.Tree.{IsSpending}
use Rattle.distinguish_search.specs.declared.searched.Searched.{Searched}
use Rattle.distinguish_search.specs.declared.searched.Searched.TheVariants as searched
use Rattle.distinguish_search.specs.Searched.{IsSearched}
use Rattle.clause_pool.specs.Clauses.{Clause}
use Rattle.learn_solver.specs.declared.solved.Solved.{Solved}
use Rattle.learn_solver.specs.Solved.{IsSolved}
use Rattle.kept_vectors.specs.Cube.{IsOfCube}
use Rattle.result_records.specs.declared.record.Budgets.{Budgets}
use Rattle.result_records.specs.declared.record.Proof.{Proof}
use Rattle.result_records.specs.Spelling.{HasProofSpelling}
use Rattle.result_file.specs.Lines.{HasRightRoots, IsRightProof}
use Rattle.dia_gen.specs.declared.ahead.Ahead.{Ahead}
use Rattle.dia_gen.specs.declared.ahead.Known.{Known}
use Rattle.dia_gen.specs.declared.pair.PairSpace.{PairSpace}
use Rattle.dia_gen.specs.declared.pair.Settled.{Settled}
use Rattle.dia_gen.specs.declared.pair.Settled.TheVariants.{Apart, By}
use Rattle.dia_gen.specs.Made.{HasNoSearch, HasNoRefutation}

-- The cube has the vector's bit at each source that is relevant for the two.
abbrev pub HasRelevant : Circuit → Fault → Fault → List Bool → List (Option Bool) → Type 0
HasRelevant c f g v cube = (source : ℕ) → source < length v → is_relevant c f g source ≡ true → slice_index_or cube source None ≡ Some (bit_at v source)

-- The solver returns this for the two within the given number of conflicts, with some clauses in the pool.
pub record IsSolvedFor (c : Circuit) (f g : Fault) (conflicts : ℕ) (solved : Solved) : Type 0 where
  pub clauses : List Clause
  pub is : IsSolved c f g conflicts clauses solved

module _ (c : Circuit) (f g : Fault) (budgets : Budgets) where
  -- A search finds this within the budget of cubes. Without one it is the tree of one open leaf.
  pub record IsSearchedFor (result : Searched) : Type 0 where
    pub is_searched : IsSearched c f g budgets.cubes result
    pub none : budgets.cubes ≡ 0 → result ≡ searched.Spent (Rest ∷ [])

  -- The tree leaves the pair open, and spends the budget of cubes. Without one it is one open leaf.
  pub record IsOpenFor (tree : List Token) : Type 0 where
    pub spending : IsSpending c f g budgets.cubes tree
    pub none : budgets.cubes ≡ 0 → tree ≡ Rest ∷ []

  -- The vector has a bit for each source and separates the two, and there is a budget to find it.
  pub record IsApartBy (v : List Bool) : Type 0 where
    pub budget : (budgets.cubes ≢ 0) ⊎ (budgets.conflicts ≢ 0)
    pub width : length v ≡ c.sources
    pub separates : Separates c v f g

  -- The cube has a place for each source, every vector of it separates the two, and there is a budget to find these.
  pub record AreApartBy (cube : List (Option Bool)) : Type 0 where
    pub width : length cube ≡ c.sources
    pub each : (v : List Bool) → IsOfCube cube v → IsApartBy v

  -- The proof can be written and is right for the two and the budgets, with right roots if their roots differ. Without
  -- a budget of cubes it has no search, without a budget of conflicts it is no refutation.
  pub record IsProofBy (proof : Proof) : Type 0 where
    pub roots : root c f ≢ root c g → HasRightRoots c f g proof
    pub spelled : HasProofSpelling proof
    pub right : IsRightProof c f g budgets proof
    pub no_search : budgets.cubes ≡ 0 → HasNoSearch proof
    pub no_refutation : budgets.conflicts ≡ 0 → HasNoRefutation proof

  -- A cube whose vectors all separate the two, or a proof that is right for them if their roots differ.
  abbrev pub IsSettledBy : Settled → Type 0
  IsSettledBy (Apart cube) = AreApartBy cube.items
  IsSettledBy (By proof) = IsProofBy proof

-- The proof can be written and is right for the two numbers and the budgets. Without a budget of cubes it has no
-- search, without a budget of conflicts it is no refutation.
pub record IsProofFor (c : Circuit) (budgets : Budgets) (lead member : ℕ) (proof : Proof) : Type 0 where
  pub roots : HasRightRoots c (fault_numbered c lead) (fault_numbered c member) proof
  pub spelled : HasProofSpelling proof
  pub right : IsRightProof c (fault_numbered c lead) (fault_numbered c member) budgets proof
  pub no_search : budgets.cubes ≡ 0 → HasNoSearch proof
  pub no_refutation : budgets.conflicts ≡ 0 → HasNoRefutation proof

-- A cube whose vectors all separate a number from its representative, or a proof that is right for the two.
abbrev pub IsSettledFor : Circuit → Budgets → ℕ → ℕ → Settled → Type 0
IsSettledFor c budgets lead member (Apart cube) = AreApartBy c (fault_numbered c lead) (fault_numbered c member) budgets cube.items
IsSettledFor c budgets lead member (By proof) = IsProofFor c budgets lead member proof

-- What is known of the number is what a search finds for it and the representative `lead`.
pub record IsKnownOf (c : Circuit) (budgets : Budgets) (number : ℕ) (known : Known) : Type 0 where
  pub found : IsSearchedFor c (fault_numbered c known.lead) (fault_numbered c number) budgets known.found

-- There is room for each number, and what is known is right.
pub record IsAheadFor (c : Circuit) (budgets : Budgets) (ahead : Ahead) : Type 0 where
  pub room : length ahead.known.items ≡ fault_count c
  pub lowest : length ahead.lowest.items ≡ fault_count c
  pub known : (n : ℕ) → IfSome (slice_index_or ahead.known.items n None) (IsKnownOf c budgets n)

-- The space is one for pairs of the circuit, no clause is left in it, and what it knows of pairs is right.
pub record IsSpaceFor (c : Circuit) (budgets : Budgets) (space : PairSpace) : Type 0 where
  pub simulated : space.sim.circuit ≡ c
  pub miters : IfSome space.miters (λ miters. miters ≡ c)
  pub emptied : space.pool.clauses ≡ []
  pub ahead : IsAheadFor c budgets space.ahead

-- There is at least one cube, and each has a place for each source.
pub record AreCubesFor (c : Circuit) (cubes : List (List (Option Bool))) : Type 0 where
  pub some : 0 < length cubes
  pub widths : All (λ cube. length cube ≡ c.sources) cubes

-- Each vector of the first new cube is a vector of the first old one.
abbrev pub IsNarrowed : List (List (Option Bool)) → List (List (Option Bool)) → Type 0
IsNarrowed old new = (v : List Bool) → IsOfCube (slice_index_or new 0 []) v → IsOfCube (slice_index_or old 0 []) v
