-- How often answers occur in a set of classes, and how many pairs each pattern splits.
use Rattle.std.specs.Prelude.{◌≡◌, ℕ, ◌+◌, ◌<◌, ◌≤◌, ◌==◌, Bool, not, List, [], ◌∷◌, map, filter, length, count_by, slice_index}
use Rattle.adaptive_planner.specs.declared.class_numbers.ClassNumbers.{ClassNumbers}
use Rattle.adaptive_planner.specs.declared.counting.AnswerCounts.{AnswerCounts}
use Rattle.adaptive_planner.specs.Numbering.{number_for, class_number, own_numbers}

-- how many pairs of places have different numbers
abbrev pub unequal_pairs : List ℕ → ℕ
unequal_pairs [] = 0
unequal_pairs (x ∷ xs) = count_by (λ y. not (x == y)) xs + unequal_pairs xs

abbrev pub not_first : ℕ → Bool
not_first number = not (number == 0)

-- the numbers of what classes answer to a pattern, given a list of numbers for each class
abbrev pub pattern_numbers : List ℕ → ℕ → List (List ℕ) → List ℕ
pattern_numbers patterns pattern lists = map (number_for patterns pattern) lists

-- the lists of the classes of a set
abbrev pub set_lists : ClassNumbers → List ℕ → List (List ℕ)
set_lists c set = map (own_numbers c) set

-- The counts are those of the answers in these lists: for each number above 0 how often it occurs, and for each pattern
-- how many answers aren't that of class 0, and how many pairs of these are different.
pub record AreListsCounted (patterns : List ℕ) (limit : ℕ) (lists : List (List ℕ)) (often others apart : List ℕ) : Type 0 where
  pub often_is : (number : ℕ) → 0 < number → number < length patterns → slice_index often number ≡ count_by (λ n. n == number) (pattern_numbers patterns (slice_index patterns number) lists)
  pub others_is : (pattern : ℕ) → pattern < limit → slice_index others pattern ≡ count_by not_first (pattern_numbers patterns pattern lists)
  pub apart_is : (pattern : ℕ) → pattern < limit → slice_index apart pattern ≡ unequal_pairs (filter not_first (pattern_numbers patterns pattern lists))

-- There is a count for each number, and there are two counts for each pattern.
pub record HaveCountRoom (c : ClassNumbers) (counts : AnswerCounts) : Type 0 where
  pub often : length counts.often.items ≡ length c.patterns.items
  pub others : length counts.others.items ≡ length c.firsts.items
  pub apart : length counts.apart.items ≡ length c.firsts.items

-- The counts are those of lists, one for each class.
pub record AreCountsFor (c : ClassNumbers) (lists : List (List ℕ)) (counts : AnswerCounts) : Type 0 where
  pub room : HaveCountRoom c counts
  pub counted : AreListsCounted c.patterns.items (length c.firsts.items) lists counts.often.items counts.others.items counts.apart.items

-- The counts are those of a set of classes.
abbrev pub AreCountsOf : ClassNumbers → List ℕ → AnswerCounts → Type 0
AreCountsOf c set counts = AreCountsFor c (set_lists c set) counts

-- how many pairs of a set a pattern splits, by numbers
abbrev pub pairs_parted : ClassNumbers → List ℕ → ℕ → ℕ
pairs_parted c set pattern = unequal_pairs (map (class_number c pattern) set)

-- The pattern splits most pairs of the set, and is the lowest that does.
pub record IsMostParting (c : ClassNumbers) (set : List ℕ) (pattern : ℕ) : Type 0 where
  pub within : pattern < length c.firsts.items
  pub most : (other : ℕ) → other < length c.firsts.items → pairs_parted c set other ≤ pairs_parted c set pattern
  pub lowest : (other : ℕ) → other < pattern → pairs_parted c set other < pairs_parted c set pattern
