-- Units: the unit of a number is its root.
use Rattle.std.specs.Prelude.{◌≡◌, ◌≢◌, ◌≤◌, ◌<◌, ◌+◌, ℕ, List, length, slice_index, Contains}
use Rattle.net_model.specs.ClassTable.{ClassTable, class_at}
use Rattle.kept_vectors.specs.declared.units.Units.{Units}

-- The number is its own root.
abbrev pub IsUnit : List ℕ → ℕ → Type 0
IsUnit roots n = slice_index roots n ≡ n

-- `at` is the first number, starting at `from`, that has the root, or the count of all numbers if none has.
pub record IsNextWith (roots : List ℕ) (root from at : ℕ) : Type 0 where
  pub low : from ≤ at
  pub within : at ≤ length roots
  pub has : at < length roots → slice_index roots at ≡ root
  pub none : (n : ℕ) → from ≤ n → n < at → slice_index roots n ≢ root

-- For the numbers starting at `from`, `firsts` has the first number with each root, and `nexts` has for each number the
-- next one with its root.
pub record AreChains (roots : List ℕ) (from : ℕ) (firsts nexts : List ℕ) : Type 0 where
  pub first : (root : ℕ) → root < length roots → IsNextWith roots root from (slice_index firsts root)
  pub next : (n : ℕ) → from ≤ n → n < length roots → IsNextWith roots (slice_index roots n) (n + 1) (slice_index nexts n)

pub record HasChains (units : Units) : Type 0 where
  pub firsts : length units.firsts.items ≡ length units.roots.now
  pub nexts : length units.nexts.items ≡ length units.roots.now
  pub chains : AreChains units.roots.now 0 units.firsts.items units.nexts.items

-- These are all numbers that have one of these roots, and no others.
pub record AreOfUnits (roots units numbers : List ℕ) : Type 0 where
  pub all : (n : ℕ) → n < length roots → Contains units (slice_index roots n) → Contains numbers n
  pub only : (n : ℕ) → Contains numbers n → (n < length roots) × Contains units (slice_index roots n)

-- Each number is in the class of its root.
abbrev pub AreTogether : List ℕ → ClassTable → Type 0
AreTogether roots t = (n : ℕ) → n < length t.class_of → class_at t (slice_index roots n) ≡ class_at t n
