-- Lists of numbers, as a mark for each that isn't 0, and these numbers, the others, one after another.
use Rattle.std.specs.Prelude.{◌≡◌, ℕ, ◌+◌, ◌-◌, ◌*◌, ◌/◌, ◌%◌, ◌<◌, ◌≤◌, ◌^◌, ◌==◌, Bool, List, All, map, length, slice_index, count_ones, if◌then◌else◌}
use Rattle.std.specs.List.{range_with_len}
use Rattle.std.specs.Int.{bit_at}

-- whether a place is marked, in words of 64 marks
unfoldable pub is_marked : List ℕ → ℕ → Bool
is_marked marks place = bit_at (slice_index marks (place / 64)) (place % 64) == 1

-- how many marks come before a place, if `before` has how many come before each word
unfoldable pub marks_before : List ℕ → List ℕ → ℕ → ℕ
marks_before marks before place = slice_index before (place / 64) + count_ones (slice_index marks (place / 64) % 2 ^ (place % 64))

-- the number at a place: 0 if it isn't marked, else that of `others` at the number of marks before it
unfoldable pub sparse_number : List ℕ → List ℕ → List ℕ → ℕ → ℕ
sparse_number marks before others place = (if is_marked marks place then slice_index others (marks_before marks before place) else 0)

-- the numbers at the first `len` places
abbrev pub sparse_list : List ℕ → List ℕ → List ℕ → ℕ → List ℕ
sparse_list marks before others len = map (sparse_number marks before others) (range_with_len 0 len)

-- The words have marks for `len` places and for at most 64 more, which aren't marked. `before` has a number for each
-- word; together with the word's marks it is at most the number of `others`, and exactly that for the word of place
-- `len`, if there is one. There are at most `len` others, and none is 0.
pub record AreSparse (marks before others : List ℕ) (len : ℕ) : Type 0 where
  pub counts : length before ≡ length marks
  pub enough : len ≤ 64 * length marks
  pub tight : 64 * length marks ≤ len + 64
  pub clear : (at : ℕ) → slice_index marks at < 2 ^ (len - 64 * at)
  pub inside : (at : ℕ) → at < length marks → slice_index before at + count_ones (slice_index marks at) ≤ length others
  pub last : len / 64 < length marks → slice_index before (len / 64) + count_ones (slice_index marks (len / 64)) ≡ length others
  pub few : length others ≤ len
  pub some : All (λ number. 0 < number) others
