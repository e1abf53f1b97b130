-- The gains of the candidates of all patterns: how many pairs each tells apart, among those that are alike at the other
-- patterns.
use Rattle.std.specs.Prelude.{◌≡◌, ◌<◌, ◌≤◌, ◌==◌, ◌||◌, ℕ, Bool, List, [], length, slice_index, slice_index_or}
use Rattle.std.specs.List.{list_all, range_with_len}
use Rattle.samediff_dict.specs.declared.numbering.Candidates.{Candidates}
use Rattle.samediff_dict.specs.PlaceGroups.{AreGains}
use Rattle.samediff_dict.specs.Moved.{same_side}

-- the candidates of a pattern
abbrev pub candidates_in : List Candidates → ℕ → Candidates
candidates_in patterns pattern = slice_index_or patterns pattern (record { numbers = []; count = 0 })

-- whether two classes are alike at a pattern: both have the chosen number there, or neither has
abbrev pub alike_at : List Candidates → List ℕ → ℕ → ℕ → ℕ → Bool
alike_at patterns chosen pattern low high = same_side (candidates_in patterns pattern).numbers (slice_index chosen pattern) low high

-- whether two classes are alike at each pattern except one
unfoldable pub alike_but : List Candidates → List ℕ → ℕ → ℕ → ℕ → Bool
alike_but patterns chosen pattern low high = list_all (λ other. other == pattern || alike_at patterns chosen other low high) (range_with_len 0 (length chosen))

-- The rows of the patterns in a range have the gains of their candidates, over the pairs that are together for each
-- pattern.
pub record AreGainsIn (patterns : List Candidates) (together : ℕ → ℕ → ℕ → Bool) (first end : ℕ) (rows : List (List ℕ)) : Type 0 where
  pub each : (pattern : ℕ) → first ≤ pattern → pattern < end → AreGains (together pattern) (candidates_in patterns pattern).numbers (candidates_in patterns pattern).count (slice_index_or rows pattern [])

-- There is such a row for each pattern, and no other one.
pub record HaveGains (patterns : List Candidates) (together : ℕ → ℕ → ℕ → Bool) (rows : List (List ℕ)) : Type 0 where
  pub count_is : length rows ≡ length patterns
  pub gains : AreGainsIn patterns together 0 (length patterns) rows

-- There are as many rows as before, and only those in the range may differ.
pub record KeepsRowsOutside (first end : ℕ) (old new : List (List ℕ)) : Type 0 where
  pub long : length new ≡ length old
  pub before : (pattern : ℕ) → pattern < first → slice_index_or new pattern [] ≡ slice_index_or old pattern []
  pub behind : (pattern : ℕ) → end ≤ pattern → slice_index_or new pattern [] ≡ slice_index_or old pattern []
