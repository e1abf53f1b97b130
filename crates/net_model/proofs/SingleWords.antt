-- Bits of one word, and of two consecutive words.
use Rattle.std.proofs.Common.{◌≡◌, ◌∙◌, ℕ, zero, suc, ◌+◌, ◌-◌, ◌*◌, ◌/◌, ◌%◌, ◌<◌, ◌≤◌, ◌^◌, true, false, cond, eqb, min, max, refl, sym, ap, arith, inl, inr}
use Rattle.std.specs.Prelude.{not, nat_lt, ◌==◌, ◌&&◌, ◌||◌, bit_and, bit_or, bit_xor, if◌then◌else◌}
use Rattle.std.specs.Int.{bit_at, bit_not, trailing_zeros, w64}
use Rattle.std.proofs.Math.Bool.{and-true, and-false}
use Rattle.std.proofs.lemmas.Bool.{cases_lt, cases_eq, eq-eqb, ne_eqb}
use Rattle.std.proofs.lemmas.Bool.Decides.{nat_tests}
use Rattle.std.proofs.lemmas.Nat.{shr-shr, shr_split}
use Rattle.std.proofs.lemmas.Nat.Bits.{bit_at-lt, bit_at-zero, bit_at_and, bit_at_or, bit_at_xor, bit_at_not, bit_at_ones, bit_at-trailing_zeros, bit_at_above, bit_at_cat_low, bit_at_cat_high, bit_at_mask_above, bit_at_set_same, bit_at_set_other, bit_at_clear_same, bit_at_clear_other, same_from_bits_below}
use Rattle.net_model.specs.Rows.{bit_of}

-- ---- tests of two digits

-- what holds of every two digits
both_digits : (P : ℕ → ℕ → Type 0) → P 0 0 → P 0 1 → P 1 0 → P 1 1 → (m n : ℕ) → m < 2 → n < 2 → P m n
both_digits P a b c d zero zero h k = a
both_digits P a b c d zero (suc zero) h k = b
both_digits P a b c d (suc zero) zero h k = c
both_digits P a b c d (suc zero) (suc zero) h k = d
both_digits P a b c d (suc (suc m)) n h k = absurd (omega arith)
both_digits P a b c d m (suc (suc n)) h k = absurd (omega arith)

min_test : (m n : ℕ) → m < 2 → n < 2 → (min m n == 1) ≡ ((m == 1) && (n == 1))
min_test = both_digits (λ m n. (min m n == 1) ≡ ((m == 1) && (n == 1))) refl refl refl refl

max_test : (m n : ℕ) → m < 2 → n < 2 → (max m n == 1) ≡ ((m == 1) || (n == 1))
max_test = both_digits (λ m n. (max m n == 1) ≡ ((m == 1) || (n == 1))) refl refl refl refl

odd_test : (m n : ℕ) → m < 2 → n < 2 → ((m + n) % 2 == 1) ≡ (if m == 1 then not (n == 1) else (n == 1))
odd_test = both_digits (λ m n. ((m + n) % 2 == 1) ≡ (if m == 1 then not (n == 1) else (n == 1))) refl refl refl refl

not_test : (m : ℕ) → m < 2 → (1 - m == 1) ≡ not (m == 1)
not_test zero h = refl
not_test (suc zero) h = refl
not_test (suc (suc m)) h = absurd (omega arith)

-- ---- numbers with the same bits

same_bit : (a b : ℕ) → a < 2 → b < 2 → eqb a 1 ≡ eqb b 1 → a ≡ b
same_bit = both_digits (λ a b. eqb a 1 ≡ eqb b 1 → a ≡ b) (λ e. refl) (λ e. cc) (λ e. cc) (λ e. refl)

pub same_number : (width a b : ℕ) → a < 2 ^ width → b < 2 ^ width → ((k : ℕ) → k < width → bit_of a k ≡ bit_of b k) → a ≡ b
same_number width a b ha hb same =
    same_from_bits_below width a b ha hb (λ k h. same_bit (bit_at a k) (bit_at b k) (bit_at-lt a k) (bit_at-lt b k) (same k h))

-- ---- the digits of what words give

pub digit_and : (a b lane : ℕ) → bit_of (bit_and a b) lane ≡ (bit_of a lane && bit_of b lane)
digit_and a b lane = ap (λ d. d == 1) (bit_at_and a b lane) ∙ min_test (bit_at a lane) (bit_at b lane) (bit_at-lt a lane) (bit_at-lt b lane)

pub digit_or : (a b lane : ℕ) → bit_of (bit_or a b) lane ≡ (bit_of a lane || bit_of b lane)
digit_or a b lane = ap (λ d. d == 1) (bit_at_or a b lane) ∙ max_test (bit_at a lane) (bit_at b lane) (bit_at-lt a lane) (bit_at-lt b lane)

pub digit_xor : (a b lane : ℕ) → bit_of (bit_xor a b) lane ≡ (if bit_of a lane then not (bit_of b lane) else bit_of b lane)
digit_xor a b lane = ap (λ d. d == 1) (bit_at_xor a b lane) ∙ odd_test (bit_at a lane) (bit_at b lane) (bit_at-lt a lane) (bit_at-lt b lane)

pub digit_not : (a lane : ℕ) → a < 2 ^ 64 → lane < 64 → bit_of (bit_not w64 a) lane ≡ not (bit_of a lane)
digit_not a lane h k = ap (λ d. d == 1) (bit_at_not w64 a lane h k) ∙ not_test (bit_at a lane) (bit_at-lt a lane)

-- ---- no word has a bit in 0, and another word has one

pub digit_zero : (lane : ℕ) → bit_of 0 lane ≡ false
digit_zero lane = ap (λ d. d == 1) (bit_at-zero lane)

pub digit_ones : (k lane : ℕ) → lane < k → bit_of (2 ^ k - 1) lane ≡ true
digit_ones k lane h = ap (λ d. d == 1) (bit_at_ones k lane h)

-- a word other than 0 has a 1 somewhere
pub some_digit : (word : ℕ) → 0 < word → word < 2 ^ 64 → (lane : ℕ) × (lane < 64) × (bit_of word lane ≡ true)
some_digit word h k =
    let last = bit_at-trailing_zeros w64 word h k in
    (trailing_zeros w64 word, last.0, ap (λ d. d == 1) last.1)

-- ---- one bit

pub bit-set : (word at : ℕ) → at < 64 → (k : ℕ) → k < 64 → bit_of (bit_or word (1 * 2 ^ at % 2 ^ 64)) k ≡ cond (eqb k at) true (bit_of word k)
bit-set word at h k l =
    elim (cases_eq k at) [
      | inl same ↦ rw (eq-eqb k at same) (ap (λ i. bit_of (bit_or word (1 * 2 ^ at % 2 ^ 64)) i) same ∙ ap (λ b. eqb b 1) (bit_at_set_same w64 word at h))
      | inr ne ↦ rw (ne_eqb k at ne) (ap (λ b. eqb b 1) (bit_at_set_other w64 word at h k ne))
    ]

pub bit-cleared : (word at : ℕ) → at < 64 → word < 2 ^ 64 → (k : ℕ) → k < 64 → bit_of (bit_and word (2 ^ 64 - 1 - 1 * 2 ^ at % 2 ^ 64)) k ≡ cond (eqb k at) false (bit_of word k)
bit-cleared word at h fits k l =
    elim (cases_eq k at) [
      | inl same ↦ rw (eq-eqb k at same) (ap (λ i. bit_of (bit_and word (2 ^ 64 - 1 - 1 * 2 ^ at % 2 ^ 64)) i) same ∙ ap (λ b. eqb b 1) (bit_at_clear_same w64 word at h))
      | inr ne ↦ rw (ne_eqb k at ne) (ap (λ b. eqb b 1) (bit_at_clear_other w64 word at h k l ne))
    ]

-- ---- the lowest bits

-- a word under the mask of the lowest bits
pub bit-masked : (word count k : ℕ) → bit_of (bit_and word (2 ^ count - 1)) k ≡ (nat_lt k count && bit_of word k)
bit-masked word count k =
    digit_and word (2 ^ count - 1) k
    ∙ elim (cases_lt k count) [
      | inl below ↦
          let yes : nat_lt k count ≡ true = grind (arith, below, nat_tests) in
          ap (λ b. bit_of word k && b) (digit_ones count k below) ∙ (and-true (bit_of word k) ∙ ap (λ b. b && bit_of word k) (sym yes))
      | inr past ↦
          let no : nat_lt k count ≡ false = grind (arith, past, nat_tests) in
          ap (λ b. bit_of word k && b) (ap (λ d. d == 1) (bit_at_mask_above 0 count k past)) ∙ (and-false (bit_of word k) ∙ ap (λ b. b && bit_of word k) (sym no))
    ]

-- ---- 64 bits of two consecutive words

-- the low bits of a number are those of its remainder
pub digit_left : (n w i : ℕ) → i < w → bit_at (n % 2 ^ w) i ≡ bit_at n i
digit_left n w i h = sym (bit_at_cat_low (n / 2 ^ w) w (n % 2 ^ w) i h) ∙ ap (λ m. bit_at m i) (shr_split n w)

-- a number that is shifted up has no low bits, and has its own bits above
pub digit_up_low : (n k i : ℕ) → i < k → bit_at (n * 2 ^ k) i ≡ 0
digit_up_low n k i h = let e : n * 2 ^ k + 0 ≡ n * 2 ^ k = omega arith in ap (λ m. bit_at m i) (sym e) ∙ (bit_at_cat_low n k 0 i h ∙ bit_at-zero i)

pub digit_up_high : (n k i : ℕ) → k ≤ i → 0 < 2 ^ k → bit_at (n * 2 ^ k) i ≡ bit_at n (i - k)
digit_up_high n k i h some = let e : n * 2 ^ k + 0 ≡ n * 2 ^ k = omega arith in ap (λ m. bit_at m i) (sym e) ∙ bit_at_cat_high n k 0 i some h

module _ (low high shift : ℕ) (some : 0 < shift) (few : shift < 64) (fits : low < 2 ^ 64) where
  abbrev joined : ℕ
  joined = bit_or (low / 2 ^ shift) (high * 2 ^ (64 - shift) % 2 ^ 64)

  pub digit_below : (k : ℕ) → shift + k < 64 → bit_at joined k ≡ bit_at low (shift + k)
  digit_below k h =
      let one : bit_at (low / 2 ^ shift) k ≡ bit_at low (shift + k) = ap (λ n. n % 2) (shr-shr low shift k) in
      let other : bit_at (high * 2 ^ (64 - shift) % 2 ^ 64) k ≡ 0 = digit_left (high * 2 ^ (64 - shift)) 64 k (omega arith) ∙ digit_up_low high (64 - shift) k (omega arith) in
      bit_at_or (low / 2 ^ shift) (high * 2 ^ (64 - shift) % 2 ^ 64) k ∙ omega (arith, one, other)

  pub digit_above : (k : ℕ) → k < 64 → 64 ≤ shift + k → 0 < 2 ^ (64 - shift) → bit_at joined k ≡ bit_at high (shift + k - 64)
  digit_above k h over unit =
      let one : bit_at (low / 2 ^ shift) k ≡ 0 = ap (λ n. n % 2) (shr-shr low shift k) ∙ bit_at_above low 64 (shift + k) fits over in
      let at : k - (64 - shift) ≡ shift + k - 64 = omega arith in
      let other : bit_at (high * 2 ^ (64 - shift) % 2 ^ 64) k ≡ bit_at high (shift + k - 64) =
      digit_left (high * 2 ^ (64 - shift)) 64 k h ∙ (digit_up_high high (64 - shift) k (omega arith) unit ∙ ap (bit_at high) at) in
      bit_at_or (low / 2 ^ shift) (high * 2 ^ (64 - shift) % 2 ^ 64) k ∙ omega (arith, one, other)
