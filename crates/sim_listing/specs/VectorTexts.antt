-- What a circuit answers to vectors, as texts that are made one at a time.
use Rattle.std.specs.Prelude.{◌≡◌, ℕ, ◌+◌, ◌<◌, ◌≤◌, Bool, List}
use Rattle.net_model.specs.Circuit.{Circuit}

-- a circuit, the vectors, and which of them were simulated last: `count` vectors that begin at `first`
pub record VectorTexts : Type 0 where
  pub circuit : Circuit
  pub vectors : List (List Bool)
  pub first : ℕ
  pub count : ℕ

-- a circuit and vectors, with none simulated
abbrev pub texts_before : Circuit → List (List Bool) → VectorTexts
texts_before circuit vectors = record { circuit = circuit; vectors = vectors; first = 0; count = 0 }

-- The circuit and the vectors are the same.
pub record HaveSameVectors (old new : VectorTexts) : Type 0 where
  pub circuit : new.circuit ≡ old.circuit
  pub vectors : new.vectors ≡ old.vectors

-- The vector with this number is among those that were simulated last.
pub record HasSimulated (t : VectorTexts) (number : ℕ) : Type 0 where
  pub from : t.first ≤ number
  pub below : number < t.first + t.count
