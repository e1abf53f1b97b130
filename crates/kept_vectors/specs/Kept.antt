-- The vectors that are kept: each that cuts a class of those kept before it.
use Rattle.std.specs.Prelude.{◌≡◌, ℕ, ◌<◌, ◌≤◌, Bool, List, [], ◌∷◌, ◌++◌, length, take, fold, zip, slice_index_or, All, if◌then◌else◌}
use Rattle.net_model.specs.Circuit.{Circuit}
use Rattle.net_model.specs.FaultList.{fault_count}
use Rattle.net_model.specs.ClassTable.{ClassTable, class_at, first_table, refined_table, cuts_class}
use Rattle.net_model.specs.PatternRows.{AreAnswerRows, SplitsClass}
use Rattle.word_sim.specs.Stream.{stream}

-- the kept vectors, and their table
pub record KeptSoFar : Type 0 where
  pub vectors : List (List Bool)
  pub table : ClassTable

abbrev pub nothing_kept : ℕ → KeptSoFar
nothing_kept numbers = record { vectors = []; table = first_table numbers }

-- what is kept after a vector came with its row of answers: the vector is kept exactly if the row cuts a class
abbrev pub with_vector : KeptSoFar → List Bool × List (List Bool) → KeptSoFar
with_vector k x = if cuts_class k.table x.1 then record { vectors = k.vectors ++ x.0 ∷ []; table = refined_table k.table x.1 } else k

-- what is kept of vectors with their rows, if nothing is kept before
abbrev pub keeping : ℕ → List (List Bool × List (List Bool)) → KeptSoFar
keeping numbers vectors = fold with_vector (nothing_kept numbers) vectors

-- These are the vectors that are kept of a list, if nothing is kept before.
pub record IsKeptOf (c : Circuit) (vectors kept : List (List Bool)) : Type 0 where
  pub rows : List (List (List Bool))
  pub answers : AreAnswerRows c vectors rows
  pub kept_is : kept ≡ (keeping (fault_count c) (zip vectors rows)).vectors

-- These are the vectors that are kept of the first `blocks` blocks of the stream, if nothing is kept before.
abbrev pub IsKept : Circuit → ℕ → List (List Bool) → Type 0
IsKept c blocks kept = IsKeptOf c (stream c.sources blocks) kept

-- `new` is what is kept after these vectors came one after another to `old`, each with the row of answers that the
-- circuit gives to it.
pub record Keeps (c : Circuit) (vectors : List (List Bool)) (old new : KeptSoFar) : Type 0 where
  pub by_rows : (rows : List (List (List Bool))) → AreAnswerRows c vectors rows → new ≡ fold with_vector old (zip vectors rows)

-- `new` is what is kept after the first `count` of these vectors came to `old`, and these are not all.
pub record KeepsFirst (c : Circuit) (vectors : List (List Bool)) (old new : KeptSoFar) : Type 0 where
  pub count : ℕ
  pub short : count < length vectors
  pub keeps : Keeps c (take count vectors) old new

-- The first `count` of these vectors are kept after the old ones, and each of them splits a class of those before it.
pub record KeepsRun (c : Circuit) (vectors : List (List Bool)) (count : ℕ) (old new : KeptSoFar) : Type 0 where
  pub within : count ≤ length vectors
  pub keeps : Keeps c (take count vectors) old new
  pub kept : new.vectors ≡ old.vectors ++ take count vectors
  pub splits : (at : ℕ) → at < count → SplitsClass c (old.vectors ++ take at vectors) (slice_index_or vectors at [])

-- Each vector has a bit for each source, and splits a class of the vectors before it.
pub record SplitInTurn (c : Circuit) (vectors : List (List Bool)) : Type 0 where
  pub widths : All (λ v. length v ≡ c.sources) vectors
  pub splits : (at : ℕ) → at < length vectors → SplitsClass c (take at vectors) (slice_index_or vectors at [])

-- The tables have the same numbers, and numbers that are together in the new table were together in the old one.
pub record IsFiner (old new : ClassTable) : Type 0 where
  pub numbers : length new.class_of ≡ length old.class_of
  pub together : (m n : ℕ) → m < length old.class_of → n < length old.class_of → class_at new m ≡ class_at new n → class_at old m ≡ class_at old n
