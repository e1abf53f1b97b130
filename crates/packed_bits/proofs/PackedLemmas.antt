-- Bits in words.
use Rattle.std.proofs.Common.{◌≡◌, ◌∙◌, ℕ, ◌+◌, ◌*◌, ◌/◌, ◌%◌, ◌<◌, ◌≤◌, false, List, Bool, [], cond, length, get_or, set, replicate, refl, sym, ap, arith, inl, inr}
use Rattle.std.proofs.lemmas.Bool.{cases_eq, eq-eqb, ne_eqb}
use Rattle.std.proofs.lemmas.List.{ext_get_or, get_or-set_same, get_or-set_other, get_or-replicate, length-set}
use Rattle.std.proofs.lemmas.List.FromFn.{length-map-range_with_len, get_or-map-range_with_len}
use Rattle.std.proofs.lemmas.Nat.{mod_below}
use Rattle.net_model.specs.Rows.{bit_of, word_bit}
use Rattle.net_model.proofs.RowLemmas.{HasBit, get_or-rows_of, rows_of-replicate}
use Rattle.packed_bits.specs.Packed.{packed_bits}

pub length-packed : (count : ℕ) (words : List ℕ) → length (packed_bits count words) ≡ count
length-packed count words = length-map-range_with_len (word_bit words 0) 0 count

pub packed_at : (count : ℕ) (words : List ℕ) (at : ℕ) → at < count → get_or (packed_bits count words) at false ≡ word_bit words 0 at
packed_at count words at h = get_or-map-range_with_len (word_bit words 0) 0 count at at false h (omega arith)

-- words of zeros
pub packed_zeros : (count n : ℕ) → packed_bits count (replicate n 0) ≡ replicate count false
packed_zeros count n =
    sym (get_or-rows_of 0 count 1 (replicate n 0) 0 [] (omega arith))
    ∙ (ap (λ (rows : List (List Bool)). get_or rows 0 []) (rows_of-replicate 0 count 1 n) ∙ get_or-replicate 1 0 (replicate count false) [] (omega arith))

word_bit-first : (words : List ℕ) (at : ℕ) → word_bit words 0 at ≡ bit_of (get_or words (at / 64) 0) (at % 64)
word_bit-first words at = ap (λ i. bit_of (get_or words i 0) (at % 64)) (let same : 0 + at / 64 ≡ at / 64 = omega arith in same)

-- one bit of the words
module _ (count : ℕ) (words : List ℕ) (at word : ℕ) (bit : Bool) (low : at < count) (within : at / 64 < length words) (has : HasBit (at % 64) bit (get_or words (at / 64) 0) word) where
  after : List ℕ
  after = set words (at / 64) word

  bit_here : word_bit after 0 at ≡ bit
  unfolding after
  bit_here =
      word_bit-first (set words (at / 64) word) at
      ∙ (ap (λ w. bit_of w (at % 64)) (get_or-set_same words (at / 64) word 0 within)
      ∙ (has.bits (at % 64) (mod_below at 64 (omega arith)) ∙ ap (λ b. cond b bit (bit_of (get_or words (at / 64) 0) (at % 64))) (eq-eqb (at % 64) (at % 64) refl)))

  other_word : (k : ℕ) → (k ≡ at → ⊥) → bit_of (get_or (set words (at / 64) word) (k / 64) 0) (k % 64) ≡ bit_of (get_or words (k / 64) 0) (k % 64)
  other_word k apart =
      elim (cases_eq (k / 64) (at / 64)) [
        | inr ne ↦ ap (λ w. bit_of w (k % 64)) (get_or-set_other words (at / 64) (k / 64) word 0 ne)
        | inl same ↦
            let ne = ne_eqb (k % 64) (at % 64) (λ e. apart (omega (arith, same, e))) in
            ap (λ i. bit_of (get_or (set words (at / 64) word) i 0) (k % 64)) same
            ∙ (ap (λ w. bit_of w (k % 64)) (get_or-set_same words (at / 64) word 0 within)
            ∙ (has.bits (k % 64) (mod_below k 64 (omega arith))
            ∙ (ap (λ b. cond b bit (bit_of (get_or words (at / 64) 0) (k % 64))) ne ∙ ap (λ i. bit_of (get_or words i 0) (k % 64)) (sym same))))
      ]

  bit_other : (k : ℕ) → (k ≡ at → ⊥) → word_bit after 0 k ≡ word_bit words 0 k
  unfolding after
  bit_other k apart = word_bit-first (set words (at / 64) word) k ∙ (other_word k apart ∙ sym (word_bit-first words k))

  pub packed_set : packed_bits count (set words (at / 64) word) ≡ set (packed_bits count words) at bit
  unfolding after
  packed_set =
      let old = packed_bits count words in
      ext_get_or false (packed_bits count after) (set old at bit) (length-packed count after ∙ sym (length-set old at bit ∙ length-packed count words))
      (λ k h.
      let in_old : k < count = omega (arith, h, length-packed count after) in
      elim (cases_eq k at) [
        | inl here ↦
            ap (λ i. get_or (packed_bits count after) i false) here
            ∙ (packed_at count after at low ∙ (bit_here ∙ (sym (get_or-set_same old at bit false (omega (arith, low, length-packed count words))) ∙ ap (λ i. get_or (set old at bit) i false) (sym here))))
        | inr ne ↦ packed_at count after k in_old ∙ (bit_other k ne ∙ (sym (packed_at count words k in_old) ∙ sym (get_or-set_other old at k bit false ne)))
      ])
