-- Places in groups, by a list that has the group of each.
use Rattle.std.specs.Prelude.{◌≡◌, ℕ, ◌<◌, ◌≤◌, ◌==◌, ◌&&◌, Bool, not, List, length, nat_lt, sum_by, count_by, filter, slice_index, Option, MatchOption}
use Rattle.std.specs.Bool.{beq}
use Rattle.std.specs.List.{range_with_len}

-- Each of the numbers is below the limit.
abbrev pub AreBelow : List ℕ → ℕ → Type 0
AreBelow numbers limit = (place : ℕ) → place < length numbers → slice_index numbers place < limit

-- Two places have the same number in a list.
abbrev pub HaveSameNumber : List ℕ → ℕ → ℕ → Type 0
HaveSameNumber numbers low high = slice_index numbers low ≡ slice_index numbers high

-- Two places have the same number in each of two lists.
abbrev pub InBoth : List ℕ → List ℕ → ℕ → ℕ → Type 0
InBoth left right low high = HaveSameNumber left low high × HaveSameNumber right low high

-- Two places both have the given number in a list, or neither has it.
abbrev pub HaveOrLackNumber : List ℕ → ℕ → ℕ → ℕ → Type 0
HaveOrLackNumber numbers number low high = (slice_index numbers low == number) ≡ (slice_index numbers high == number)

-- Two places have the same number in one list, and in another both have the given number or neither has it.
abbrev pub InBothAt : List ℕ → List ℕ → ℕ → ℕ → ℕ → Type 0
InBothAt left right number low high = HaveSameNumber left low high × HaveOrLackNumber right number low high

-- Each of `places` places has a group below `count`, and two places are in one group exactly if they are `together`.
pub record AreGroups (places : ℕ) (together : ℕ → ℕ → Type 0) (group_of : List ℕ) (count : ℕ) : Type 0 where
  pub one_each : length group_of ≡ places
  pub within : AreBelow group_of count
  pub same : (low high : ℕ) → low < places → high < places → together low high → HaveSameNumber group_of low high
  pub together_are : (low high : ℕ) → low < places → high < places → HaveSameNumber group_of low high → together low high

-- how many of the first `places` places are in a group
abbrev pub size_to : List ℕ → ℕ → ℕ → ℕ
size_to group_of places group = count_by (λ place. slice_index group_of place == group) (range_with_len 0 places)

-- whether a place isn't alone in its group
abbrev pub is_shared : List ℕ → ℕ → Bool
is_shared group_of place = nat_lt 1 (size_to group_of (length group_of) (slice_index group_of place))

-- the places that aren't alone in their groups
abbrev pub shared_places : List ℕ → List ℕ
shared_places group_of = filter (is_shared group_of) (range_with_len 0 (length group_of))

-- how many pairs of numbers below a limit, the lower number first, pass a test
abbrev pub pairs_where : ℕ → (ℕ → ℕ → Bool) → ℕ
pairs_where numbers test = sum_by (λ high. count_by (λ low. test low high) (range_with_len 0 high)) (range_with_len 0 numbers)

-- whether two places are in one group
abbrev pub in_one : List ℕ → ℕ → ℕ → Bool
in_one group_of low high = slice_index group_of low == slice_index group_of high

-- `sizes` has the size of each group, and `together` is how many pairs of places are in one group.
pub record IsTallyOf (group_of : List ℕ) (count : ℕ) (sizes : List ℕ) (together : ℕ) : Type 0 where
  pub count_is : length sizes ≡ count
  pub sizes_are : (group : ℕ) → group < count → slice_index sizes group ≡ size_to group_of (length group_of) group
  pub together_is : together ≡ pairs_where (length group_of) (in_one group_of)

-- whether two numbers are together and exactly one of them has an answer
abbrev pub tells_apart : (ℕ → ℕ → Bool) → List ℕ → ℕ → ℕ → ℕ → Bool
tells_apart together answers answer low high = together low high && not (beq (slice_index answers low == answer) (slice_index answers high == answer))

-- how many pairs of numbers that are together an answer tells apart
unfoldable pub gain_at : (ℕ → ℕ → Bool) → List ℕ → ℕ → ℕ
gain_at together answers answer = pairs_where (length answers) (tells_apart together answers answer)

-- `gains` has for each candidate how many pairs that are together it tells apart.
pub record AreGains (together : ℕ → ℕ → Bool) (answers : List ℕ) (candidates : ℕ) (gains : List ℕ) : Type 0 where
  pub count_is : length gains ≡ candidates
  pub each : (answer : ℕ) → answer < candidates → slice_index gains answer ≡ gain_at together answers answer

-- `best` is the first of the candidates with the highest gain.
pub record IsFirstMost (gain : ℕ → ℕ) (candidates best : ℕ) : Type 0 where
  pub within : best < candidates
  pub most : (other : ℕ) → other < candidates → gain other ≤ gain best
  pub first : (other : ℕ) → other < best → gain other < gain best

-- `found` is the first candidate with a higher gain than `current`.
pub record IsFirstAbove (gain : ℕ → ℕ) (candidates current found : ℕ) : Type 0 where
  pub within : found < candidates
  pub above : gain current < gain found
  pub first : (other : ℕ) → other < found → gain other ≤ gain current

-- No candidate has a higher gain than `current`.
abbrev pub NoneAbove : (ℕ → ℕ) → ℕ → ℕ → Type 0
NoneAbove gain candidates current = (other : ℕ) → other < candidates → gain other ≤ gain current

-- `found` is the first candidate with a higher gain than `current`, or none if there is none.
abbrev pub IsFoundAbove : (ℕ → ℕ) → ℕ → ℕ → Option ℕ → Type 0
IsFoundAbove gain candidates current found = MatchOption found (NoneAbove gain candidates current) (IsFirstAbove gain candidates current)
