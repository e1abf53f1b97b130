-- A candidate in place of another: which classes it moves, and which pairs it puts together or splits.
use Rattle.std.specs.Prelude.{◌≡◌, ◌+◌, ◌*◌, ◌<◌, ◌==◌, ◌||◌, ◌&&◌, ℕ, Bool, true, false, not, List, length, AllPairs, Contains, slice_index, slice_index_or, if◌then◌else◌}
use Rattle.std.specs.Bool.{beq}
use Rattle.samediff_dict.specs.declared.partition.Partition.{Partition}
use Rattle.samediff_dict.specs.PlaceGroups.{AreBelow, AreGains, HaveSameNumber}
use Rattle.samediff_dict.specs.Partition.{AreTogether, are_together}

-- whether both of two classes have a number, or neither has it
abbrev pub same_side : List ℕ → ℕ → ℕ → ℕ → Bool
same_side numbers number low high = beq (slice_index numbers low == number) (slice_index numbers high == number)

-- whether a class has the old number or the new one
abbrev pub is_moved : List ℕ → ℕ → ℕ → ℕ → Bool
is_moved numbers old new class = slice_index numbers class == old || slice_index numbers class == new

-- whether one of two classes is moved and the other isn't
abbrev pub is_mixed : List ℕ → ℕ → ℕ → ℕ → ℕ → Bool
is_mixed numbers old new low high = not (beq (is_moved numbers old new low) (is_moved numbers old new high))

-- Each pair of the partition was together exactly if both classes have the old number or neither has, and is together
-- now exactly if this holds for the new number. Each other pair is together now exactly if it was.
pub record AreMovedWithin (classes : ℕ) (p : Partition) (numbers : List ℕ) (old new : ℕ) (before after : ℕ → ℕ → Bool) : Type 0 where
  pub was : (low high : ℕ) → low < high → high < classes → are_together p low high ≡ true → before low high ≡ same_side numbers old low high
  pub is : (low high : ℕ) → low < high → high < classes → are_together p low high ≡ true → after low high ≡ same_side numbers new low high
  pub others : (low high : ℕ) → low < high → high < classes → are_together p low high ≡ false → after low high ≡ before low high

-- `part` has only pairs of `whole`, and each mixed pair of it.
pub record HasMixedOf (classes : ℕ) (whole part : Partition) (numbers : List ℕ) (old new : ℕ) : Type 0 where
  pub within : (low high : ℕ) → low < classes → high < classes → AreTogether part low high → AreTogether whole low high
  pub mixed : (low high : ℕ) → low < classes → high < classes → AreTogether whole low high → is_mixed numbers old new low high ≡ true → AreTogether part low high

-- ---- the gains of another pattern's candidates

-- The gains are counted over some pairs `before`, which differ from some pairs `after` as `AreMovedWithin` says.
pub record AreGainsBefore (p : Partition) (numbers : List ℕ) (old new : ℕ) (answers gains : List ℕ) : Type 0 where
  pub before : ℕ → ℕ → Bool
  pub after : ℕ → ℕ → Bool
  pub moved : AreMovedWithin (length answers) p numbers old new before after
  pub are : AreGains before answers (length gains) gains

-- For all pairs `before` and `after` that differ as `AreMovedWithin` says: if the gains are counted over `before`, the
-- repaired ones are counted over `after`.
abbrev pub AreGainsAfter : Partition → List ℕ → ℕ → ℕ → List ℕ → List ℕ → List ℕ → Type 0
AreGainsAfter p numbers old new answers gains repaired = (before after : ℕ → ℕ → Bool) → AreMovedWithin (length answers) p numbers old new before after → AreGains before answers (length gains) gains → AreGains after answers (length gains) repaired

-- ---- the groups that have both a place that is moved and one that isn't

-- where a place marks its group: at the first of its two marks if the place is moved, else at the second
abbrev pub side_at : List ℕ → List ℕ → ℕ → ℕ → ℕ → ℕ
side_at groups numbers old new place = 2 * slice_index groups place + (if is_moved numbers old new place then 0 else 1)

-- There are two marks for each group, and each of the first places has marked its side of its group.
pub record AreSides (groups : List ℕ) (count : ℕ) (numbers : List ℕ) (old new first : ℕ) (sides : List Bool) : Type 0 where
  pub long : length sides ≡ 2 * count
  pub marked : (place : ℕ) → place < first → slice_index_or sides (side_at groups numbers old new place) false ≡ true

-- whether both sides of the group of a place are marked
abbrev pub has_both_sides : List ℕ → List Bool → ℕ → Bool
has_both_sides groups sides place = slice_index_or sides (2 * slice_index groups place) false && slice_index_or sides (2 * slice_index groups place + 1) false

-- The places are ascending. Whenever two places are in one group and only one of them is moved, both are among these.
pub record AreMixedPlaces (groups numbers : List ℕ) (old new : ℕ) (places : List ℕ) : Type 0 where
  pub ascending : AllPairs (λ low high. low < high) places
  pub below : AreBelow places (length groups)
  pub complete : (low high : ℕ) → low < length groups → high < length groups → HaveSameNumber groups low high → is_mixed numbers old new low high ≡ true → Contains places low × Contains places high

-- The listed classes of `part` are those at `places` of the list of `p`, in their groups there.
pub record AreAtPlaces (p : Partition) (places : List ℕ) (part : Partition) : Type 0 where
  pub long : length part.classes.items ≡ length places
  pub groups_long : length part.groups.group_of.items ≡ length places
  pub classes_are : (k : ℕ) → k < length places → slice_index part.classes.items k ≡ slice_index p.classes.items (slice_index places k)
  pub groups_are : (k : ℕ) → k < length places → slice_index part.groups.group_of.items k ≡ slice_index p.groups.group_of.items (slice_index places k)
  pub count_is : part.groups.count ≡ p.groups.count
