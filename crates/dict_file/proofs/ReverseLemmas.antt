-- Reversed bits, and words and bytes of each other.
use Rattle.std.proofs.Common.{◌≡◌, ◌∙◌, ◌↔◌, ℕ, zero, suc, ◌+◌, ◌-◌, ◌*◌, ◌/◌, ◌%◌, ◌^◌, ◌<◌, ◌≤◌, Bool, true, false, eqb, List, [], ◌∷◌, length, get_or, refl, sym, ap, arith, inl, inr}
use Rattle.std.specs.Int.{bit_at, w8, w64, reverse_bits, reverse_bits_onto, from_be_bytes, to_be_bytes, trailing_zeros}
use Rattle.std.proofs.lemmas.Bool.{cases_lt}
use Rattle.std.proofs.lemmas.Nat.{shr-shr, be_bytes_8, mod_below}
use Rattle.std.proofs.lemmas.Nat.Bits.{bit_at-suc, bit_at_lowest, bit_at-trailing_zeros, bit_at-zero}
use Rattle.std.proofs.lemmas.List.{get_or_past}
use lib.Count.{count_trailing_zeros}
use Rattle.net_model.specs.Rows.{bit_of, IsPacked}
use Rattle.net_model.proofs.SingleWords.{digit_left}
use Rattle.dict_file.specs.Packing.{byte_count, byte_of, HasZeroPadding}
use Rattle.dict_file.specs.Words.{IsWordAt}
use Rattle.dict_file.proofs.BitLemmas.{fits_tight, byte_by_bits}

-- ---- the bits of parts of a number

pub bit_shifted : (n k i : ℕ) → bit_at (n / 2 ^ k) i ≡ bit_at n (k + i)
bit_shifted n k i = ap (λ m. m % 2) (shr-shr n k i)

-- ---- reversed

last_two : (a r : ℕ) → r < 2 → (a * 2 + r) / 2 ≡ a
last_two a r h = omega (arith, h)

pub reversed_high : (k n a i : ℕ) → k ≤ i → bit_at (reverse_bits_onto k n a) i ≡ bit_at a (i - k)
unfolding reverse_bits_onto
reversed_high zero n a i h = let e : i ≡ i - 0 = omega arith in ap (λ j. bit_at a j) e
reversed_high (suc k) n a i h =
    let e : i - k ≡ suc (i - suc k) = omega (arith, h) in
    reversed_high k (n / 2) (a * 2 + n % 2) i (omega (arith, h))
    ∙ (ap (λ j. bit_at (a * 2 + n % 2) j) e ∙ (bit_at-suc (a * 2 + n % 2) (i - suc k) ∙ ap (λ m. bit_at m (i - suc k)) (last_two a (n % 2) (mod_below n 2 (omega arith)))))

last_bit : (a n : ℕ) → bit_at (a * 2 + n % 2) 0 ≡ bit_at n 0
last_bit a n = bit_at_lowest (a * 2 + n % 2) ∙ (let e : (a * 2 + n % 2) % 2 ≡ n % 2 = omega arith in e ∙ sym (bit_at_lowest n))

pub reversed_low : (k n a i : ℕ) → i < k → bit_at (reverse_bits_onto k n a) i ≡ bit_at n (k - 1 - i)
unfolding reverse_bits_onto
reversed_low zero n a i h = absurd (omega (arith, h))
reversed_low (suc k) n a i h = elim (cases_lt i k) [
  | inl low ↦
      let e : suc k - 1 - i ≡ suc (k - 1 - i) = omega (arith, low) in
      reversed_low k (n / 2) (a * 2 + n % 2) i low ∙ (sym (bit_at-suc n (k - 1 - i)) ∙ ap (λ j. bit_at n j) (sym e))
  | inr over ↦
      let z : i - k ≡ 0 = omega (arith, h, over) in
      let e : suc k - 1 - i ≡ 0 = omega (arith, h, over) in
      reversed_high k (n / 2) (a * 2 + n % 2) i over ∙ (ap (λ j. bit_at (a * 2 + n % 2) j) z ∙ (last_bit a n ∙ ap (λ j. bit_at n j) (sym e)))
]

-- ---- eight bytes as a word

-- Byte `j` from the top of the bytes of a number.
byte_from_top : (n m : ℕ) → m < 8 → get_or (to_be_bytes w64 n) m 0 ≡ n / 2 ^ (8 * (7 - m)) % 2 ^ 8
byte_from_top n zero h = refl
byte_from_top n (suc zero) h = refl
byte_from_top n (suc (suc zero)) h = refl
byte_from_top n (suc (suc (suc zero))) h = refl
byte_from_top n (suc (suc (suc (suc zero)))) h = refl
byte_from_top n (suc (suc (suc (suc (suc zero))))) h = refl
byte_from_top n (suc (suc (suc (suc (suc (suc zero)))))) h = refl
byte_from_top n (suc (suc (suc (suc (suc (suc (suc zero))))))) h = omega arith
byte_from_top n (suc (suc (suc (suc (suc (suc (suc (suc m)))))))) h = absurd (omega (arith, h))

pub eight_are : (bytes : List ℕ) (from a b c d e f g h : ℕ) → a ≡ get_or bytes from 0 → b ≡ get_or bytes (from + 1) 0 → c ≡ get_or bytes (from + 2) 0 → d ≡ get_or bytes (from + 3) 0 → e ≡ get_or bytes (from + 4) 0
    → f ≡ get_or bytes (from + 5) 0 → g ≡ get_or bytes (from + 6) 0 → h ≡ get_or bytes (from + 7) 0 → (m : ℕ) → m < 8 → get_or (a ∷ b ∷ c ∷ d ∷ e ∷ f ∷ g ∷ h ∷ []) m 0 ≡ get_or bytes (from + m) 0
eight_are bytes from a b c d e f g h p q r s t u v w zero l = let z : from ≡ from + 0 = omega arith in p ∙ ap (λ k. get_or bytes k 0) z
eight_are bytes from a b c d e f g h p q r s t u v w (suc zero) l = q
eight_are bytes from a b c d e f g h p q r s t u v w (suc (suc zero)) l = r
eight_are bytes from a b c d e f g h p q r s t u v w (suc (suc (suc zero))) l = s
eight_are bytes from a b c d e f g h p q r s t u v w (suc (suc (suc (suc zero)))) l = t
eight_are bytes from a b c d e f g h p q r s t u v w (suc (suc (suc (suc (suc zero))))) l = u
eight_are bytes from a b c d e f g h p q r s t u v w (suc (suc (suc (suc (suc (suc zero)))))) l = v
eight_are bytes from a b c d e f g h p q r s t u v w (suc (suc (suc (suc (suc (suc (suc zero))))))) l = w
eight_are bytes from a b c d e f g h p q r s t u v w (suc (suc (suc (suc (suc (suc (suc (suc m)))))))) l = absurd (omega (arith, l))

eight_fit : (bytes : List ℕ) (from : ℕ) (eight : List ℕ) → length eight ≡ 8 → ((i : ℕ) → get_or bytes i 0 < 256) → ((m : ℕ) → m < 8 → get_or eight m 0 ≡ get_or bytes (from + m) 0) → (i : ℕ) → get_or eight i 0 < 256
eight_fit bytes from eight long fits same i = elim (cases_lt i 8) [
  | inl low ↦ let e = same i low in omega (arith, e, fits (from + i))
  | inr over ↦ let e = get_or_past eight i 0 (omega (arith, over, long)) in omega (arith, e)
]

pub word_of_eight : (bytes : List ℕ) (from : ℕ) (eight : List ℕ) (word : ℕ) → length eight ≡ 8 → ((i : ℕ) → get_or bytes i 0 < 256) → ((m : ℕ) → m < 8 → get_or eight m 0 ≡ get_or bytes (from + m) 0)
    → word ≡ reverse_bits w64 (from_be_bytes w64 eight) → IsWordAt bytes from word
word_of_eight bytes from eight word long bytes_fit same is at h =
    let fits = eight_fit bytes from eight long bytes_fit same in
    let n = from_be_bytes w64 eight in
    let m : at / 8 < 8 = omega (arith, h) in
    let i : 7 - at % 8 < 8 = omega arith in
    let place : 64 - 1 - at ≡ 8 * (7 - at / 8) + (7 - at % 8) = omega (arith, h) in
    let back : to_be_bytes w64 n ≡ eight = be_bytes_8 eight n long fits refl in
    let byte : n / 2 ^ (8 * (7 - at / 8)) % 2 ^ 8 ≡ get_or bytes (from + at / 8) 0 =
    sym (byte_from_top n (at / 8) m) ∙ (ap (λ bs. get_or bs (at / 8) 0) back ∙ same (at / 8) m) in
    ap (λ b. eqb b 1)
    (ap (λ w. bit_at w at) is ∙ (reversed_low 64 n 0 at h ∙ (ap (λ j. bit_at n j) place
    ∙ (sym (bit_shifted n (8 * (7 - at / 8)) (7 - at % 8)) ∙ (sym (digit_left (n / 2 ^ (8 * (7 - at / 8))) 8 (7 - at % 8) i) ∙ ap (λ b. bit_at b (7 - at % 8)) byte)))))

-- ---- a byte of a packed row, from the row's words

pub byte_of_words : (words : List ℕ) (at word byte result : ℕ) (row : List Bool) → word ≡ get_or words (at / 8) 0 → byte ≡ word / 2 ^ (8 * (at % 8)) % 256 → result ≡ reverse_bits w8 byte → result < 256 → at / 8 < length words → IsPacked row words
    → result ≡ byte_of row (8 * at)
byte_of_words words at word byte result row word_is byte_is result_is fits inside packed =
    byte_by_bits row (8 * at) result fits
    (λ i h.
    let k : (8 * at + i) / 64 ≡ at / 8 = omega (arith, h) in
    let j : (8 * at + i) % 64 ≡ 8 * (at % 8) + i = omega (arith, h) in
    let turned : 8 - 1 - (7 - i) ≡ i = omega (arith, h) in
    let here : 0 + (8 * at + i) / 64 ≡ at / 8 = omega (arith, k) in
    ap (λ b. eqb b 1)
    (ap (λ b. bit_at b (7 - i)) result_is ∙ (reversed_low 8 byte 0 (7 - i) (omega (arith, h)) ∙ (ap (λ l. bit_at byte l) turned
    ∙ (ap (λ b. bit_at b i) byte_is ∙ (digit_left (word / 2 ^ (8 * (at % 8))) 8 i h ∙ (bit_shifted word (8 * (at % 8)) i
    ∙ (ap (λ l. bit_at word l) (sym j) ∙ (ap (λ w. bit_at w ((8 * at + i) % 64)) word_is ∙ ap (λ l. bit_at (get_or words l 0) ((8 * at + i) % 64)) (sym here)))))))))
    ∙ packed.bits (8 * at + i) (omega (arith, k, inside)))

-- ---- padding

pub zeros_of_zero : (count : ℕ) (at : ℕ) → at < count → bit_of 0 at ≡ false
zeros_of_zero count at h = ap (λ b. eqb b 1) (bit_at-zero at)

bit_is_zero : (b : ℕ) → b ≡ 0 → eqb b 1 ≡ false
bit_is_zero b e = ap (λ n. eqb n 1) e

bit_is_one : (b : ℕ) → b ≡ 1 → eqb b 1 ≡ true
bit_is_one b e = ap (λ n. eqb n 1) e

-- The zeros at the end of a byte.
pub low_zeros : (byte count : ℕ) → byte < 256 → count < 8 → count ≤ trailing_zeros w8 byte → (at : ℕ) → at < count → bit_of byte at ≡ false
low_zeros byte count fits few over at h = elim (cases_lt 0 byte) [
  | inl some ↦ bit_is_zero (bit_at byte at) ((bit_at-trailing_zeros w8 byte some fits).2 at (omega (arith, h, over)))
  | inr none ↦ let e : byte ≡ 0 = omega (arith, none) in ap (λ b. bit_of b at) e ∙ zeros_of_zero count at h
]

none_is_eight : (byte : ℕ) → byte ≡ 0 → 8 ≡ trailing_zeros w8 byte
unfolding count_trailing_zeros
none_is_eight byte e = ap (λ b. trailing_zeros w8 b) (sym e)

pub low_one : (byte count : ℕ) → byte < 256 → count < 8 → trailing_zeros w8 byte < count → ((at : ℕ) → at < count → bit_of byte at ≡ false) → ⊥
low_one byte count fits few under zeros = elim (cases_lt 0 byte) [
  | inl some ↦
      let is = bit_at-trailing_zeros w8 byte some fits in
      let e : ◌≡◌ {A = Bool} true false = sym (bit_is_one (bit_at byte (trailing_zeros w8 byte)) is.1) ∙ zeros (trailing_zeros w8 byte) under in
      cc
  | inr none ↦
      let e : byte ≡ 0 = omega (arith, none) in
      let eight : 8 ≡ trailing_zeros w8 byte = none_is_eight byte e in
      omega (arith, eight, under, few)
]

-- The padding of a row is in its last byte.
pub padding_of_byte : (bytes : List ℕ) (start width : ℕ) → 0 < byte_count width → ((at : ℕ) → at < 8 * byte_count width - width → bit_of (get_or bytes (start + byte_count width - 1) 0) at ≡ false) → HasZeroPadding bytes start width
padding_of_byte bytes start width some zeros at over h =
    let last : at / 8 ≡ byte_count width - 1 = omega (arith, over, h, fits_tight width) in
    let place : start + at / 8 ≡ start + byte_count width - 1 = omega (arith, last, some) in
    ap (λ k. bit_of (get_or bytes k 0) (7 - at % 8)) place ∙ zeros (7 - at % 8) (omega (arith, over, h, last, some))

pub byte_of_padding : (bytes : List ℕ) (start width : ℕ) → 0 < byte_count width → HasZeroPadding bytes start width → (at : ℕ) → at < 8 * byte_count width - width → bit_of (get_or bytes (start + byte_count width - 1) 0) at ≡ false
byte_of_padding bytes start width some zeros at h =
    let from = 8 * byte_count width - 1 - at in
    let last : from / 8 ≡ byte_count width - 1 = omega (arith, h, fits_tight width) in
    let turned : 7 - from % 8 ≡ at = omega (arith, h, fits_tight width) in
    let place : start + byte_count width - 1 ≡ start + from / 8 = omega (arith, last, some) in
    ap (λ k. bit_of (get_or bytes k 0) at) place ∙ (ap (λ j. bit_of (get_or bytes (start + from / 8) 0) j) (sym turned) ∙ zeros from (omega (arith, h)) (omega (arith, h, some)))

-- The test of a row's last byte says whether the padding is zeros.
pub padding_told : (bytes : List ℕ) (start width last padding : ℕ) (low : Bool) → last ≡ start + byte_count width - 1 → padding ≡ 8 * byte_count width - width → (padding ≡ 0 → ⊥)
    → (low ≡ false) ↔ ((at : ℕ) → at < padding → bit_of (get_or bytes last 0) at ≡ false) → (low ≡ false) ↔ HasZeroPadding bytes start width
padding_told bytes start width last padding low last_is padding_is some told =
    let size : 0 < byte_count width = omega (arith, padding_is, some) in (
      λ e. padding_of_byte bytes start width size (λ at h. ap (λ k. bit_of (get_or bytes k 0) at) (sym last_is) ∙ told.0 e at (omega (arith, h, padding_is))),
      λ zeros. told.1 (λ at h. ap (λ k. bit_of (get_or bytes k 0) at) last_is ∙ byte_of_padding bytes start width size zeros at (omega (arith, h, padding_is))),
    )
