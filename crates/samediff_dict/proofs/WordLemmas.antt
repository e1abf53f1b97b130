-- Bits of one word.
use Rattle.std.proofs.Common.{◌≡◌, ◌∙◌, ℕ, ◌+◌, ◌-◌, ◌*◌, ◌/◌, ◌%◌, ◌<◌, ◌≤◌, ◌^◌, count_ones, sym, ap, inl, inr, arith}
use Rattle.std.specs.Int.{bit_at}
use Rattle.std.specs.Int.Count.{ones-ones}
use Rattle.std.proofs.lemmas.Bool.{cases_lt}
use Rattle.std.proofs.lemmas.Nat.{ones_cat, shr_split, zero_from_ones, mod_below, pow-add, pow_pos}
use Rattle.std.proofs.lemmas.Nat.Bits.{bit_at_cat_low, bit_at_cat_high}
use Rattle.std.proofs.Math.Nat.{mul-add-mod_self_right}

-- ---- bits below one

ones_parts : (word bit : ℕ) → count_ones word ≡ count_ones (word / 2 ^ bit) + count_ones (word % 2 ^ bit)
ones_parts word bit =
    let small : word % 2 ^ bit < 2 ^ bit = mod_below word (2 ^ bit) (pow_pos bit) in
    ap count_ones (sym (shr_split word bit)) ∙ ones_cat bit (word / 2 ^ bit) (word % 2 ^ bit) small

odd_has_one : (n : ℕ) → n % 2 ≡ 1 → 0 < count_ones n
odd_has_one n odd =
    elim (cases_lt 0 (count_ones n)) [
      | inl some ↦ some
      | inr none ↦ let zero_is : n ≡ 0 = zero_from_ones n (omega (arith, none)) in absurd (omega (arith, zero_is, odd))
    ]

-- fewer bits are set below one that is set than in the word
pub fewer_below : (word bit : ℕ) → bit_at word bit ≡ 1 → count_ones (word % 2 ^ bit) < count_ones word
fewer_below word bit is_set = let high = odd_has_one (word / 2 ^ bit) is_set in omega (arith, ones_parts word bit, high)

-- ---- a word with a bit above all of its own

with_one : (word bit : ℕ) → 2 ^ bit + word ≡ 1 * 2 ^ bit + word
with_one word bit = omega arith

pub ones_with : (word bit : ℕ) → word < 2 ^ bit → count_ones (2 ^ bit + word) ≡ count_ones word + 1
ones_with word bit h =
    let one : count_ones 1 ≡ 1 = ones-ones 1 in
    ap count_ones (with_one word bit) ∙ ones_cat bit 1 word h ∙ omega (arith, one)

pub bit_with : (word bit : ℕ) → word < 2 ^ bit → bit_at (2 ^ bit + word) bit ≡ 1
bit_with word bit h =
    let level : bit - bit ≡ 0 = omega arith in
    ap (λ n. bit_at n bit) (with_one word bit) ∙ bit_at_cat_high 1 bit word bit h (omega arith) ∙ ap (bit_at 1) level

pub low_bit_with : (word bit k : ℕ) → k < bit → bit_at (2 ^ bit + word) k ≡ bit_at word k
low_bit_with word bit k h = ap (λ n. bit_at n k) (with_one word bit) ∙ bit_at_cat_low 1 bit word k h

pub low_bits_with : (word bit k : ℕ) → k ≤ bit → (2 ^ bit + word) % 2 ^ k ≡ word % 2 ^ k
low_bits_with word bit k h =
    let parts : 2 ^ bit ≡ 2 ^ (bit - k) * 2 ^ k = let up : bit ≡ bit - k + k = omega arith in ap (λ n. 2 ^ n) up ∙ pow-add 2 (bit - k) k in
    ap (λ n. (n + word) % 2 ^ k) parts ∙ mul-add-mod_self_right (2 ^ (bit - k)) (2 ^ k) word
