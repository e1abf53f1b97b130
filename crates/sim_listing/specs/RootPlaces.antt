-- The roots of numbers, and their places.
use Rattle.std.specs.Prelude.{◌≡◌, ℕ, ◌<◌, ◌≤◌, List, All, length, slice_index}

-- Of the first `count` numbers, each that is its own root is at its place among the roots, and the roots are some of
-- these numbers.
pub record AreOwnPlaces (all : List ℕ) (count : ℕ) (roots places : List ℕ) : Type 0 where
  pub one_each : length places ≡ count
  pub few : length roots ≤ count
  pub known : All (λ root. root < count) roots
  pub within : (number : ℕ) → number < count → slice_index all number ≡ number → slice_index places number < length roots
  pub own : (number : ℕ) → number < count → slice_index all number ≡ number → slice_index roots (slice_index places number) ≡ number

-- The roots are some of the numbers, and each number has the place of its root.
pub record AreRootPlaces (all roots places : List ℕ) : Type 0 where
  pub one_each : length places ≡ length all
  pub few : length roots ≤ length all
  pub known : All (λ root. root < length all) roots
  pub within : (number : ℕ) → number < length all → slice_index places number < length roots
  pub own : (number : ℕ) → number < length all → slice_index roots (slice_index places number) ≡ slice_index all number
