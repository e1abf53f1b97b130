-- Changes of the pairs of lines, and how to undo them.
use Rattle.std.specs.Prelude.{◌≡◌, ℕ, ◌+◌, ◌<◌, ◌≤◌, List, [], ◌∷◌, ◌++◌, length, sum_by, slice_set, vec_capacity, All, if◌then◌else◌}
use Rattle.pair_sets.specs.PairSet.{PairSet}
use Rattle.pair_sets.specs.declared.trail.Change.{Change}
use Rattle.pair_sets.specs.declared.trail.PairTrail.{PairTrail}

-- how many pairs a set has
abbrev pub pairs_in_set : PairSet → ℕ
pairs_in_set s = (if s.both_zero then 1 else 0) + (if s.zero_one then 1 else 0) + (if s.one_zero then 1 else 0) + (if s.both_one then 1 else 0)

abbrev pub change_with : ℕ → PairSet → Change
change_with line was = record { line = line; was = was }

-- the pairs of all lines before these changes, which are undone with the last one first
abbrev pub undone : List Change → List PairSet → List PairSet
undone [] sets = sets
undone (change ∷ changes) sets = slice_set (undone changes sets) change.line change.was

-- There is room for one more change for each pair that some line still has.
abbrev pub HasChangeRoom : PairTrail → Type 0
HasChangeRoom trail = length trail.changes.items + sum_by pairs_in_set trail.sets.items ≤ vec_capacity trail.changes

-- `new` has the changes of `old` and further ones, and with these undone it has the pairs of `old`. It has the same
-- room.
pub record IsLonger (old new : PairTrail) : Type 0 where
  pub added : List Change
  pub extends : new.changes.items ≡ old.changes.items ++ added
  pub before : undone added new.sets.items ≡ old.sets.items
  pub whole : length new.sets.items ≡ length old.sets.items
  pub within : All (λ change. change.line < length new.sets.items) added
  pub capacity : vec_capacity new.changes ≡ vec_capacity old.changes
