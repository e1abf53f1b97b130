-- What the fields of `Lists` show, and what is true of them.
use Rattle.std.specs.Prelude.{◌≡◌, ℕ, ◌+◌, ◌-◌, ◌<◌, ◌≤◌, List, map, length, slice_index, slice_range}
use Rattle.std.specs.List.{range_with_len}
use Rattle.net_model.specs.declared.lists.Lists.TheInside.{Inside}

-- the lists of numbers, each from one start up to the next
abbrev pub lists_between : List ℕ → List ℕ → List (List ℕ)
lists_between starts numbers = map (λ k. slice_range numbers (slice_index starts k) (slice_index starts (k + 1))) (range_with_len 0 (length starts - 1))

abbrev pub lists_of : Inside → List (List ℕ)
lists_of a = lists_between a.starts.items a.numbers.items

-- The starts ascend, and the last one is the end of the numbers.
pub record AreStarts (starts numbers : List ℕ) : Type 0 where
  pub some : 0 < length starts
  pub ascend : (k : ℕ) → k + 1 < length starts → slice_index starts k ≤ slice_index starts (k + 1)
  pub inside : (k : ℕ) → k < length starts → slice_index starts k ≤ length numbers
  pub last : slice_index starts (length starts - 1) ≡ length numbers

abbrev pub IsFlat : Inside → Type 0
IsFlat a = AreStarts a.starts.items a.numbers.items
