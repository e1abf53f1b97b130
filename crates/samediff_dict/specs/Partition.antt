-- Classes that are together with others, in groups. A class that isn't listed is alone.
use Rattle.std.specs.Prelude.{◌≡◌, ℕ, ◌+◌, ◌<◌, ◌==◌, Bool, not, List, length, AllPairs, slice_index, slice_index_or}
use Rattle.std.specs.List.{position_or_len}
use Rattle.samediff_dict.specs.declared.partition.Partition.{Partition}
use Rattle.samediff_dict.specs.declared.groups.PlaceGroups.{PlaceGroups}
use Rattle.samediff_dict.specs.PlaceGroups.{AreBelow, HaveOrLackNumber, pairs_where, shared_places}

-- the group of a class. A class that isn't listed has a group of its own after the others.
unfoldable pub group_in : Partition → ℕ → ℕ
group_in p class = slice_index_or p.groups.group_of.items (position_or_len (λ other. other == class) p.classes.items) (p.groups.count + class)

-- Two classes are together in a partition.
abbrev pub AreTogether : Partition → ℕ → ℕ → Type 0
AreTogether p low high = group_in p low ≡ group_in p high

-- Two classes are together in a partition, and both have the number or neither has it.
abbrev pub TogetherAt : Partition → List ℕ → ℕ → ℕ → ℕ → Type 0
TogetherAt p numbers number low high = AreTogether p low high × HaveOrLackNumber numbers number low high

-- Two classes are together in a partition, and have the same key.
abbrev pub TogetherBy : Partition → (ℕ → ℕ) → ℕ → ℕ → Type 0
TogetherBy p key low high = AreTogether p low high × (key low ≡ key high)

-- There is the key of each of the classes, in their order.
pub record AreKeysOf (key : ℕ → ℕ) (classes keys : List ℕ) : Type 0 where
  pub one_each : length keys ≡ length classes
  pub each : (k : ℕ) → k < length classes → slice_index keys k ≡ key (slice_index classes k)

-- whether two classes are together in a partition
abbrev pub are_together : Partition → ℕ → ℕ → Bool
are_together p low high = group_in p low == group_in p high

-- The listed classes are ascending and each below `classes`, and each has a group below the count of groups.
pub record IsListed (classes : ℕ) (p : Partition) : Type 0 where
  pub one_each : length p.groups.group_of.items ≡ length p.classes.items
  pub ascending : AllPairs (λ low high. low < high) p.classes.items
  pub below : AreBelow p.classes.items classes
  pub within : AreBelow p.groups.group_of.items p.groups.count

-- The partition lists some of `classes` classes, and two of all these are in one group exactly if they are `together`.
pub record IsPartition (classes : ℕ) (together : ℕ → ℕ → Type 0) (p : Partition) : Type 0 where
  pub listed : IsListed classes p
  pub same : (low high : ℕ) → low < classes → high < classes → together low high → AreTogether p low high
  pub together_are : (low high : ℕ) → low < classes → high < classes → AreTogether p low high → together low high

-- The listed classes are those of `classes` that aren't alone in `groups`, in their groups there.
pub record AreShared (classes : List ℕ) (groups : PlaceGroups) (p : Partition) : Type 0 where
  pub long : length p.classes.items ≡ length (shared_places groups.group_of.items)
  pub groups_long : length p.groups.group_of.items ≡ length (shared_places groups.group_of.items)
  pub classes_are : (k : ℕ) → k < length (shared_places groups.group_of.items) → slice_index p.classes.items k ≡ slice_index classes (slice_index (shared_places groups.group_of.items) k)
  pub groups_are : (k : ℕ) → k < length (shared_places groups.group_of.items) → slice_index p.groups.group_of.items k ≡ slice_index groups.group_of.items (slice_index (shared_places groups.group_of.items) k)
  pub count_is : p.groups.count ≡ groups.count

-- how many pairs of classes are apart
unfoldable pub pairs_between : ℕ → (ℕ → ℕ → Bool) → ℕ
pairs_between classes together = pairs_where classes (λ low high. not (together low high))
