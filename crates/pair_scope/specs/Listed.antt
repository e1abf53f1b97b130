-- Marks with a list of the marked numbers.
use Rattle.std.specs.Prelude.{◌≡◌, ℕ, ◌<◌, ◌≤◌, Bool, true, false, List, [], length, All, Contains, vec_capacity}
use Rattle.net_model.specs.Answer.{bit_at}
use Rattle.pair_scope.specs.declared.listed.Listed.{Listed}

-- Each marked number is listed, each listed number has a place among the marks, and there is room to list all numbers.
pub record AreListed (a : Listed) : Type 0 where
  pub within : All (λ n. n < length a.marks.items) a.numbers.items
  pub listed : (n : ℕ) → bit_at a.marks.items n ≡ true → Contains a.numbers.items n
  pub room : length a.marks.items ≤ vec_capacity a.numbers

-- There is a mark for each number below `count`, set if the number passes the test, and the list is this one, with room
-- for `count` numbers.
pub record IsListed (count : ℕ) (test : ℕ → Bool) (list : List ℕ) (a : Listed) : Type 0 where
  pub whole : length a.marks.items ≡ count
  pub marks : (n : ℕ) → n < count → bit_at a.marks.items n ≡ test n
  pub numbers : a.numbers.items ≡ list
  pub room : count ≤ vec_capacity a.numbers

-- There are marks for the numbers below `count`, and none is marked or listed.
abbrev pub IsBlank : ℕ → Listed → Type 0
IsBlank count a = IsListed count (λ n. false) [] a
