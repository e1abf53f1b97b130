-- The descent over halves of the patterns: which pairs of classes its partitions have, and over which pairs the gains
-- are counted.
use Rattle.std.specs.Prelude.{◌≡◌, ◌≢◌, ◌+◌, ◌<◌, ◌≤◌, ◌^◌, ◌==◌, ◌&&◌, ℕ, Bool, true, false, not, List, length, nat_lt, slice_index, slice_set, Option, None, Some, MatchOption}
use Rattle.net_model.specs.Rows.{bit_of, row_bit}
use Rattle.samediff_dict.specs.declared.numbering.Candidates.{Candidates}
use Rattle.samediff_dict.specs.declared.partition.Partition.{Partition}
use Rattle.samediff_dict.specs.declared.moved.Move.{Move}
use Rattle.samediff_dict.specs.declared.descending.Descent.{Descent}
use Rattle.samediff_dict.specs.PlaceGroups.{AreBelow}
use Rattle.samediff_dict.specs.Partition.{AreTogether, IsListed}
use Rattle.samediff_dict.specs.Copied.{AreEntries}
use Rattle.samediff_dict.specs.Moved.{is_mixed}
use Rattle.samediff_dict.specs.GainTable.{candidates_in, alike_at, alike_but}

-- whether a pair counts: without a step each does, with one a pair of a class that is moved and one that isn't
abbrev pub is_counted : Option Move → ℕ → ℕ → Bool
is_counted None low high = true
is_counted (Some step) low high = is_mixed step.numbers.now step.old step.new low high

-- the pairs over which the gains of a pattern were counted so far: without a step none, with one those that were alike
-- at all other patterns before it
abbrev pub together_before : List Candidates → List ℕ → Option Move → ℕ → ℕ → ℕ → Bool
together_before patterns chosen None pattern low high = false
together_before patterns chosen (Some step) pattern low high = alike_but patterns chosen pattern low high

-- the pairs over which they are to be counted: those that are alike at all other patterns, after the step if there is
-- one
abbrev pub together_after : List Candidates → List ℕ → ℕ → Option Move → ℕ → ℕ → ℕ → Bool
together_after patterns chosen out None pattern low high = alike_but patterns chosen pattern low high
together_after patterns chosen out (Some step) pattern low high = alike_but patterns (slice_set chosen out step.new) pattern low high

module _ (d : Descent) where
  -- the number of each class at a pattern
  abbrev pub numbers_at : ℕ → List ℕ
  numbers_at pattern = (candidates_in d.patterns.now pattern).numbers

  -- The step is at the pattern that is left out, and from the number that is chosen there.
  pub record IsDescentStep (step : Move) : Type 0 where
    pub within : d.out < length d.patterns.now
    pub numbers_are : step.numbers.now ≡ numbers_at d.out
    pub old_is : step.old ≡ slice_index d.chosen.now d.out

  -- There are fewer than 2^32 classes, each with the number of a candidate at each pattern. Each pattern has a chosen
  -- number, and the entries are by these. Without a step no pattern is left out, and with one it is as `IsDescentStep`
  -- says.
  pub record CanDescend : Type 0 where
    pub few : d.count < 2 ^ 32
    pub one_chosen : length d.chosen.now ≡ length d.patterns.now
    pub one_each : (pattern : ℕ) → pattern < length d.patterns.now → length (numbers_at pattern) ≡ d.count
    pub known : (pattern : ℕ) → pattern < length d.patterns.now → AreBelow (numbers_at pattern) (candidates_in d.patterns.now pattern).count
    pub entries_are : AreEntries d.count d.patterns.now d.chosen.now d.entries.now
    pub step_is : MatchOption d.step (d.out ≡ length d.patterns.now) IsDescentStep

  -- Two classes are alike at each pattern in a range, except at the one that is left out.
  abbrev pub AreAlikeIn : ℕ → ℕ → ℕ → ℕ → Type 0
  AreAlikeIn first end low high = (pattern : ℕ) → first ≤ pattern → pattern < end → pattern ≢ d.out → alike_at d.patterns.now d.chosen.now pattern low high ≡ true

  -- Two classes are alike at each pattern outside a range, except at the one that is left out.
  abbrev pub AreAlikeOutside : ℕ → ℕ → ℕ → ℕ → Type 0
  AreAlikeOutside first end low high = AreAlikeIn 0 first low high × AreAlikeIn end (length d.patterns.now) low high

  -- The key is a word with the bits of the class's entry at the patterns in the range, the first as bit 0. It has 0 at
  -- the pattern that is left out, and after the range.
  pub record IsKeyIn (first end class key : ℕ) : Type 0 where
    pub fits : key < 2 ^ 64
    pub bits : (k : ℕ) → k < 64 → bit_of key k ≡ (nat_lt (first + k) end && (not (first + k == d.out) && row_bit d.entries.now class (first + k)))

  -- The partition has only pairs that are alike outside the range, and each such pair that counts.
  pub record HasAlike (first end : ℕ) (part : Partition) : Type 0 where
    pub listed : IsListed d.count part
    pub within : (low high : ℕ) → low < d.count → high < d.count → AreTogether part low high → AreAlikeOutside first end low high
    pub counted : (low high : ℕ) → low < d.count → high < d.count → AreAlikeOutside first end low high → is_counted d.step low high ≡ true → AreTogether part low high

  -- `part` has only pairs of `whole` that are alike in the range, and each such pair that counts.
  pub record IsNarrowed (first end : ℕ) (whole part : Partition) : Type 0 where
    pub listed : IsListed d.count part
    pub within : (low high : ℕ) → low < d.count → high < d.count → AreTogether part low high → AreTogether whole low high × AreAlikeIn first end low high
    pub counted : (low high : ℕ) → low < d.count → high < d.count → AreTogether whole low high × AreAlikeIn first end low high → is_counted d.step low high ≡ true → AreTogether part low high

  -- the pairs over which the gains of each pattern were counted so far
  abbrev pub together_of_old : ℕ → ℕ → ℕ → Bool
  together_of_old = together_before d.patterns.now d.chosen.now d.step

  -- the pairs over which they are to be counted
  abbrev pub together_of_new : ℕ → ℕ → ℕ → Bool
  together_of_new = together_after d.patterns.now d.chosen.now d.out d.step
