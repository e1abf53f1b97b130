-- Numbers in groups, one entry row for each group.
use Rattle.std.specs.Prelude.{◌≡◌, ℕ, ◌<◌, ◌⊎◌, ◌↔◌, Bool, List, [], length, take, slice_index, slice_index_or, All, Contains}
use Rattle.std.specs.Borrow.{Bor}
use Rattle.std.specs.Cmp.Lexicographic.{slice_cmp}
use Rattle.std.specs.Ordering.{nat_cmp}
use Rattle.std.specs.declared.cmp.Ordering.{Ordering}

-- The order of the words of rows.
abbrev pub words_order : Bor (List ℕ) → Bor (List ℕ) → Ordering
words_order a b = slice_cmp nat_cmp a.now b.now

-- The number isn't used, and each lower one is.
pub record IsLeastUnused (used : List ℕ) (group : ℕ) : Type 0 where
  pub unused : Contains used group → ⊥
  pub lower : (g : ℕ) → g < group → Contains used g

-- Each group number is that of a lower number, or the least one that no lower number has. So number 0 is in group 0.
pub record AreGroupNumbers (groups : List ℕ) : Type 0 where
  pub each : (n : ℕ) → n < length groups → Contains (take n groups) (slice_index groups n) ⊎ IsLeastUnused (take n groups) (slice_index groups n)

-- No row is equal to another.
pub record AreDifferent (rows : List (List Bool)) : Type 0 where
  pub apart : (a b : ℕ) → a < length rows → b < length rows → slice_index_or rows a [] ≡ slice_index_or rows b [] → a ≡ b

-- There is a group number for each number, as in `AreGroupNumbers`, and an entry row for each used group. No row is
-- equal to another.
pub record IsGrouped (numbers : ℕ) (groups : List ℕ) (entries : List (List Bool)) : Type 0 where
  pub one_each : length groups ≡ numbers
  pub numbered : AreGroupNumbers groups
  pub used : (group : ℕ) → Contains groups group ↔ (group < length entries)
  pub different : AreDifferent entries

-- The row of a number's group.
abbrev pub group_row : List ℕ → List (List Bool) → ℕ → List Bool
group_row groups entries number = slice_index_or entries (slice_index groups number) []

-- The groups are those of equal rows: each row is the entry row of its group.
pub record AreGroupsOf (rows : List (List Bool)) (groups : List ℕ) (entries : List (List Bool)) : Type 0 where
  pub grouped : IsGrouped (length rows) groups entries
  pub own : (n : ℕ) → n < length rows → group_row groups entries n ≡ slice_index_or rows n []

-- These are the groups of the first `count` rows, and for each group the place of a row that is equal to its rows.
pub record AreFirstsOf (rows : List (List Bool)) (count : ℕ) (groups firsts : List ℕ) : Type 0 where
  pub one_each : length groups ≡ count
  pub numbered : AreGroupNumbers groups
  pub used : (group : ℕ) → Contains groups group ↔ (group < length firsts)
  pub inside : All (λ first. first < length rows) firsts
  pub own : (n : ℕ) → n < count → slice_index_or rows (slice_index firsts (slice_index groups n)) [] ≡ slice_index_or rows n []
  pub different : (a b : ℕ) → a < length firsts → b < length firsts → slice_index_or rows (slice_index firsts a) [] ≡ slice_index_or rows (slice_index firsts b) [] → a ≡ b

-- The row is equal to an earlier one, and no earlier row is equal to another before it.
pub record IsFirstRepeat (rows : List (List Bool)) (row : ℕ) : Type 0 where
  pub inside : row < length rows
  pub earlier : (r : ℕ) × (r < row) × (slice_index_or rows r [] ≡ slice_index_or rows row [])
  pub first : AreDifferent (take row rows)
