-- Sets of numbers below a count, as a mark for each number.
use Rattle.std.specs.Prelude.{◌≡◌, ℕ, ◌<◌, Bool, true, false, List, length, slice_index, slice_index_or}

-- whether a number waits
abbrev pub is_pending : List Bool → ℕ → Bool
is_pending marks n = slice_index_or marks n false

-- No number waits.
abbrev pub IsEmpty : List Bool → Type 0
IsEmpty marks = (n : ℕ) → is_pending marks n ≡ false

-- The line doesn't wait: none of its places in the order of the lines waits.
abbrev pub IsIdle : List ℕ → List Bool → ℕ → Type 0
IsIdle order marks line = (place : ℕ) → place < length order → slice_index order place ≡ line → is_pending marks place ≡ false

-- The number waited and no lower one did; now it doesn't wait, and all others wait as before.
pub record IsLowest (old new : List Bool) (lowest : ℕ) : Type 0 where
  pub was : is_pending old lowest ≡ true
  pub lower : (n : ℕ) → n < lowest → is_pending old n ≡ false
  pub gone : is_pending new lowest ≡ false
  pub others : (n : ℕ) → (n ≡ lowest → ⊥) → is_pending new n ≡ is_pending old n
