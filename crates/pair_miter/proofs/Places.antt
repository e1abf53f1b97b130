-- Where the bits of a number are in a list that has some bits for each number of a range.
use Rattle.std.proofs.Common.{◌≡◌, ◌∙◌, ℕ, zero, suc, ◌+◌, ◌-◌, ◌<◌, refl, sym, ap, arith, get_or, append_assoc}
use Rattle.std.specs.Prelude.{Bool, false, List, ◌++◌, flat_map, length, sum_by}
use Rattle.std.specs.List.{range_with_len}
use Rattle.std.proofs.lemmas.List.{get_or_append_left, get_or-append_right, length-append}
use Rattle.std.proofs.lemmas.List.Sums.{sum_by-cons}

module _ (bits_of : ℕ → List Bool) (count : ℕ → ℕ) (counts : (n : ℕ) → length (bits_of n) ≡ count n) where
  pub length-flat : (first many : ℕ) → length (flat_map bits_of (range_with_len first many)) ≡ sum_by count (range_with_len first many)
  length-flat first zero = refl
  length-flat first (suc many) =
      let rest = flat_map bits_of (range_with_len (first + 1) many) in
      let parts = length-append (bits_of first) rest in
      let sum = sum_by-cons count first (range_with_len (first + 1) many) in
      let more = length-flat (first + 1) many in
      omega (arith, parts, sum, more, counts first)

  -- the bits of a number come after those of all lower ones
  pub bits_at : (first many i k : ℕ) (rest : List Bool) → i < many → k < length (bits_of (first + i))
      → get_or (flat_map bits_of (range_with_len first many) ++ rest) (sum_by count (range_with_len first i) + k) false ≡ get_or (bits_of (first + i)) k false
  bits_at first zero i k rest h below = absurd (omega arith)
  bits_at first (suc many) zero k rest h below =
      let more = flat_map bits_of (range_with_len (first + 1) many) in
      let here : first + 0 ≡ first = omega arith in
      let place : 0 + k ≡ k = omega arith in
      let within : k < length (bits_of first) = let same = ap (λ n. length (bits_of n)) here in omega (arith, same, below) in
      ap (λ xs. get_or xs (0 + k) false) (append_assoc (bits_of first) more rest)
      ∙ (ap (λ n. get_or (bits_of first ++ (more ++ rest)) n false) place
      ∙ (get_or_append_left (bits_of first) (more ++ rest) false k within
      ∙ ap (λ n. get_or (bits_of n) k false) (sym here)))
  bits_at first (suc many) (suc i) k rest h below =
      let more = flat_map bits_of (range_with_len (first + 1) many) in
      let sum = sum_by-cons count first (range_with_len (first + 1) i) in
      let place : sum_by count (range_with_len first (suc i)) + k ≡ count first + (sum_by count (range_with_len (first + 1) i) + k) = omega (arith, sum) in
      let there : (first + 1) + i ≡ first + suc i = omega arith in
      let within : k < length (bits_of ((first + 1) + i)) = let same = ap (λ n. length (bits_of n)) there in omega (arith, same, below) in
      let off : (count first + (sum_by count (range_with_len (first + 1) i) + k)) - count first ≡ sum_by count (range_with_len (first + 1) i) + k = omega arith in
      ap (λ xs. get_or xs (sum_by count (range_with_len first (suc i)) + k) false) (append_assoc (bits_of first) more rest)
      ∙ (ap (λ n. get_or (bits_of first ++ (more ++ rest)) n false) place
      ∙ (get_or-append_right (bits_of first) (more ++ rest) (count first) (count first + (sum_by count (range_with_len (first + 1) i) + k)) false (counts first) (omega arith)
      ∙ (ap (λ n. get_or (more ++ rest) n false) off
      ∙ (bits_at (first + 1) many i k rest (omega arith) within
      ∙ ap (λ n. get_or (bits_of n) k false) there))))
