-- What the steps of a cut make.
use Rattle.std.specs.Prelude.{◌≡◌, ◌<◌, ◌≤◌, ℕ, ◌==◌, ◌++◌, ◌⊎◌, Bool, List, [], ◌∷◌, Some, map, filter, length, slice_get, slice_set, slice_index, slice_index_or, if◌then◌else◌, nat_eq, All, Contains, IsTrue, ◌↔◌}
use Rattle.std.specs.Option.{option_eq}
use Rattle.net_model.specs.ClassTable.{ClassTable, class_at, members, piece_lowest, new_lowest, refined_table, cuts_class, SplitBy}

-- the piece of a class that has this lowest number
abbrev pub piece_of : ClassTable → List (List Bool) → ℕ → List ℕ
piece_of t row low = filter (λ n. piece_lowest t row n == low) (members t (class_at t low))

-- The groups are the pieces that have these lowest numbers, and the parents the classes that they leave.
pub record ArePieces (t : ClassTable) (row : List (List Bool)) (lows : List ℕ) (groups : List (List ℕ)) (parents : List ℕ) : Type 0 where
  pub groups_are : groups ≡ map (piece_of t row) lows
  pub parents_are : parents ≡ map (class_at t) lows

-- The groups are all pieces that leave their classes, by class and then by lowest member, and the parents the classes
-- that they leave.
abbrev pub AreLeaving : ClassTable → List (List Bool) → List (List ℕ) → List ℕ → Type 0
AreLeaving t row groups parents = ArePieces t row (new_lowest t row) groups parents

-- The row adds `added` classes to the table: 0 exactly if it splits no class, and then the new table is the old one;
-- else it is the refined one.
pub record HasCut (old new : ClassTable) (row : List (List Bool)) (added : ℕ) : Type 0 where
  pub count : added ≡ length (new_lowest old row)
  pub cuts : (0 < added) ↔ IsTrue (cuts_class old row)
  pub splits : (0 < added) ↔ SplitBy old row
  pub refined : 0 < added → new ≡ refined_table old row
  pub unchanged : added ≡ 0 → new ≡ old

-- the groups after a number came into the one at a place, or into a new one after all if the place is their count
abbrev pub put_in : List (List ℕ) → ℕ → ℕ → List (List ℕ)
put_in groups place n = if place == length groups then groups ++ (n ∷ []) ∷ [] else slice_set groups place (slice_index_or groups place [] ++ n ∷ [])

-- whether a number is of a class
abbrev pub is_in : List ℕ → ℕ → ℕ → Bool
is_in class_of class n = option_eq nat_eq (slice_get class_of n) (Some class)

-- the numbers of a class's group that are of the class
abbrev pub staying : List ℕ → List (List ℕ) → ℕ → List ℕ
staying class_of groups class = filter (is_in class_of class) (slice_index_or groups class [])

-- After the move each number of a group, starting at group `first`, is in the class with the group's number, and any
-- other is where it was.
pub record IsMove (before : List ℕ) (groups : List (List ℕ)) (first : ℕ) (after : ℕ → ℕ) : Type 0 where
  pub moved : (class : ℕ) → first ≤ class → class < length groups → All (λ n. after n ≡ class) (slice_index_or groups class [])
  pub others : (n : ℕ) → n < length before → (after n ≡ slice_index before n) ⊎ ((class : ℕ) × (first ≤ class) × (class < length groups) × Contains (slice_index_or groups class []) n)
