-- A circuit, what is kept for it, and the block that is looked at.
use Rattle.std.specs.Prelude.{ℕ, Bool, List, []}
use Rattle.net_model.specs.Answer.{Separates}
use Rattle.net_model.specs.Circuit.{Circuit, IsCircuit}
use Rattle.net_model.specs.ClassTable.{ClassTable, class_at, representative}
use Rattle.net_model.specs.FaultList.{fault_numbered}
use Rattle.net_model.specs.PatternRows.{IsTableOf}
use Rattle.class_refine.specs.Fields.{IsWhole}
use Rattle.kept_vectors.specs.Kept.{KeptSoFar, SplitInTurn}

-- a circuit, what is kept for it, and the vectors of the block that is looked at
pub record Keeper : Type 0 where
  pub circuit : Circuit
  pub kept : KeptSoFar
  pub looked : List (List Bool)

-- the keeper that looks at no block
abbrev pub keeper_with : Circuit → KeptSoFar → Keeper
keeper_with circuit kept = record { circuit = circuit; kept = kept; looked = [] }

-- `c` is a circuit, each kept vector has a bit for each source and splits a class of those before it, and the table is
-- that of all of them, and whole.
pub record IsKeeperOf (c : Circuit) (kept : KeptSoFar) : Type 0 where
  pub circuit : IsCircuit c
  pub splits : SplitInTurn c kept.vectors
  pub table : IsTableOf c kept.vectors kept.table
  pub whole : IsWhole kept.table

-- What is true of every keeper: its circuit is well-formed, each kept vector has a bit for each source and splits a
-- class of those before it, and the table is that of all of them, and whole.
abbrev pub IsKeeper : Keeper → Type 0
IsKeeper k = IsKeeperOf k.circuit k.kept

-- The vector separates the number from the representative of its class.
abbrev pub SeparatesMember : Circuit → ClassTable → ℕ → List Bool → Type 0
SeparatesMember c t member v = Separates c v (fault_numbered c (representative t (class_at t member))) (fault_numbered c member)
