-- The classes as they were before a pattern.
use Rattle.std.specs.Prelude.{◌≡◌, ℕ, ◌+◌, ◌<◌, Bool, true, false, List, length, Option, None, slice_index, slice_index_or, ◌==◌, if◌then◌else◌}
use Rattle.std.specs.Option.{option_map_or}
use Rattle.net_model.specs.ClassTable.{ClassTable, class_at}

-- The class that a class was before a pattern: its parent if the pattern cut it off, else itself.
abbrev pub class_before : List (Option (ℕ × ℕ)) → ℕ → ℕ → ℕ
class_before births pattern class = option_map_or (λ birth. if birth.1 == pattern then birth.0 else class) (slice_index_or births class None) class

-- The class that the list has for the number at a place of a group.
abbrev pub earlier_at : List ℕ → List ℕ → ℕ → ℕ
earlier_at group earlier place = slice_index earlier (slice_index group place)

-- Two of the first `count` numbers of a group have the same class in the list.
pub record RepeatsWithin (group earlier : List ℕ) (count : ℕ) : Type 0 where
  pub first : ℕ
  pub second : ℕ
  pub order : first < second
  pub within : second < count
  pub same : earlier_at group earlier first ≡ earlier_at group earlier second

-- Two numbers of a group have the same class in the list.
abbrev pub HasRepeat : List ℕ → List ℕ → Type 0
HasRepeat group earlier = RepeatsWithin group earlier (length group)

-- No mark is set.
pub record NoneIsMarked (marks : List Bool) : Type 0 where
  pub each : (class : ℕ) → slice_index_or marks class false ≡ false

-- One of the numbers of a group at the places from `from` up to `to` has the class in the list.
pub record HasClassBetween (group earlier : List ℕ) (from to class : ℕ) : Type 0 where
  pub place : ℕ
  pub low : from < place + 1
  pub within : place < to
  pub same : earlier_at group earlier place ≡ class

-- The marks are those of the classes that the first `count` numbers of a group have in the list.
pub record AreMarkedTo (group earlier : List ℕ) (count : ℕ) (marks : List Bool) : Type 0 where
  pub has : (class : ℕ) → slice_index_or marks class false ≡ true → HasClassBetween group earlier 0 count class
  pub marked : (place : ℕ) → place < count → slice_index_or marks (earlier_at group earlier place) false ≡ true

-- Two numbers of one group have the same class in the list.
pub record ShareEarlier (groups : ClassTable) (earlier : List ℕ) : Type 0 where
  pub first : ℕ
  pub second : ℕ
  pub order : first < second
  pub within : second < length earlier
  pub together : class_at groups first ≡ class_at groups second
  pub same : slice_index earlier first ≡ slice_index earlier second
