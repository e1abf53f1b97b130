-- Numbers in groups by the roots of their faults.
use Rattle.std.specs.Prelude.{◌≡◌, ℕ, ◌<◌, ◌≤◌, List, length, slice_index}

-- Each of the first `count` numbers is in a group whose first number has the same root.
pub record AreGroupsByRoot (roots : List ℕ) (count : ℕ) (groups firsts : List ℕ) : Type 0 where
  pub one_each : length groups ≡ count
  pub few : length firsts ≤ count
  pub inside : (group : ℕ) → group < length firsts → slice_index firsts group < count
  pub known : (n : ℕ) → n < count → slice_index groups n < length firsts
  pub same : (n : ℕ) → n < count → slice_index roots (slice_index firsts (slice_index groups n)) ≡ slice_index roots n
