-- Laws of tidying, of freshness and of the miter.
use Rattle.std.specs.Prelude.{◌≡◌, ◌<◌, ◌^◌, Bool, true, List, Contains, length, All}
use Rattle.net_model.specs.declared.fault.Fault.{Fault}
use Rattle.net_model.specs.Circuit.{Circuit, IsCircuit}
use Rattle.net_model.specs.Fault.{IsFaultOf}
use Rattle.net_model.specs.Answer.{Separates}
use Rattle.clause_pool.specs.Literal.{Literal}
use Rattle.clause_pool.specs.Clauses.{Clause}
use Rattle.clause_pool.specs.Proper.{IsProper}
use Rattle.pair_miter.specs.Variables.{variable_count}
use Rattle.pair_miter.specs.Miter.{tidy, miter, is_model, vector_of}
use Rattle.pair_miter.specs.Fresh.{IsFresh}

-- An assignment satisfies clauses exactly if it satisfies them tidied.
abbrev pub TidyKeepsModels : Type 0
TidyKeepsModels = (bits : List Bool) (clauses : List Clause) → is_model bits (tidy clauses) ≡ is_model bits clauses

-- A clause that has all literals of a clause of the list isn't fresh over the list.
abbrev pub SupersetIsNotFresh : Type 0
SupersetIsNotFresh = (clauses : List Clause) (clause smaller : Clause) (at : Literal) → Contains clauses smaller
    → ((l : Literal) → Contains smaller l → Contains clause l) → ¬ IsFresh clauses clause at

-- Some assignment of all variables satisfies the miter.
pub record HasModel (c : Circuit) (f g : Fault) : Type 0 where
  pub bits : List Bool
  pub whole : length bits ≡ variable_count c f g
  pub satisfies : is_model bits (miter c f g) ≡ true

-- The vector of a model separates the faults.
abbrev pub ModelSeparates : Type 0
ModelSeparates = (c : Circuit) (f g : Fault) (bits : List Bool) → IsCircuit c → IsFaultOf c f → IsFaultOf c g
    → is_model bits (miter c f g) ≡ true → Separates c (vector_of c f g bits) f g

-- If a vector separates the faults, the miter has a model.
abbrev pub SeparatedHasModel : Type 0
SeparatedHasModel = (c : Circuit) (f g : Fault) (v : List Bool) → IsCircuit c → Separates c v f g → HasModel c f g

-- A miter has fewer than 2^30 clauses and fewer than 2^31 variables.
abbrev pub MiterIsSmall : Type 0
MiterIsSmall = (c : Circuit) (f g : Fault) → IsCircuit c → (length (miter c f g) < 2 ^ 30) × (variable_count c f g < 2 ^ 31)

-- Each clause of a miter is over its variables, and has none of them twice.
abbrev pub MiterIsProper : Type 0
MiterIsProper = (c : Circuit) (f g : Fault) → IsCircuit c → All (IsProper (variable_count c f g)) (miter c f g)
