-- Bits of bytes, the highest first, and bytes of bits.
use Rattle.std.proofs.Common.{◌≡◌, ◌∙◌, ℕ, zero, suc, ◌+◌, ◌-◌, ◌*◌, ◌/◌, ◌%◌, ◌<◌, ◌≤◌, ◌^◌, Bool, true, false, cond, eqb, List, [], ◌∷◌, length, get_or, drop, refl, sym, ap, subst, arith, inl, inr, lit<}
use Rattle.std.proofs.Math.Nat.{pow-succ', one-le-pow}
use Rattle.std.proofs.lemmas.Bool.{cases_lt}
use Rattle.std.proofs.lemmas.List.{get_or-drop}
use Rattle.std.proofs.lemmas.List.FromFn.{length-map-range_with_len, get_or-map-range_with_len}
use Rattle.std.proofs.lemmas.Nat.Bits.{bit_at-zero, bit_at_cat_low, bit_at_cat_high}
use Rattle.net_model.specs.Answer.{bit_at}
use Rattle.net_model.specs.Rows.{bit_of}
use Rattle.net_model.proofs.SingleWords.{same_number}
use Rattle.dict_file.specs.Packing.{byte_count, bits_value, byte_of, packed_row, file_bit}
use Rattle.dict_file.proofs.Standing.{IsAt}

-- ---- how many bytes bits take

pub fits_in : (n : ℕ) → n ≤ 8 * byte_count n
unfolding byte_count
fits_in n = omega arith

pub fits_tight : (n : ℕ) → 8 * byte_count n < n + 8
unfolding byte_count
fits_tight n = omega arith

pub no_bit : (i : ℕ) → bit_of 0 i ≡ false
no_bit i = ap (λ n. eqb n 1) (bit_at-zero i)

-- ---- the number of bits

first_value : (bit : Bool) (k : ℕ) → cond bit (2 ^ k) 0 ≡ cond bit 1 0 * 2 ^ k
first_value true k = omega arith
first_value false k = omega arith

first_bit : (bit : Bool) → bit_of (cond bit 1 0) 0 ≡ bit
first_bit true = refl
first_bit false = refl

one_below : (k : ℕ) → 0 < 2 ^ k
one_below k = let h = one-le-pow k 2 (omega arith) in omega (arith, h)

first_fits : (bit : Bool) (k v : ℕ) → v < 2 ^ k → cond bit (2 ^ k) 0 + v < 2 * 2 ^ k
first_fits true k v h = omega (arith, h)
first_fits false k v h = omega (arith, h)

pub value_fits : (k : ℕ) (bits : List Bool) → bits_value k bits < 2 ^ k
value_fits zero bits = lit< tt
value_fits (suc k) [] = one_below (suc k)
value_fits (suc k) (bit ∷ bits) = subst (λ n. cond bit (2 ^ k) 0 + bits_value k bits < n) (sym (pow-succ' 2 k)) (first_fits bit k (bits_value k bits) (value_fits k bits))

pub value_bit : (k : ℕ) (bits : List Bool) (i : ℕ) → i < k → bit_of (bits_value k bits) i ≡ bit_at bits (k - 1 - i)
value_bit zero bits i h = absurd (omega (arith, h))
value_bit (suc k) [] i h = no_bit i
value_bit (suc k) (bit ∷ bits) i h =
    let v = bits_value k bits in
    let whole : cond bit (2 ^ k) 0 + v ≡ cond bit 1 0 * 2 ^ k + v = ap (λ n. n + v) (first_value bit k) in
    elim (cases_lt i k) [
      | inl low ↦
          let e : suc k - 1 - i ≡ suc (k - 1 - i) = omega (arith, low) in
          ap (λ n. bit_of n i) whole ∙ (ap (λ n. eqb n 1) (bit_at_cat_low (cond bit 1 0) k v i low)
          ∙ (value_bit k bits i low ∙ ap (λ j. bit_at (bit ∷ bits) j) (sym e)))
      | inr over ↦
          let e : suc k - 1 - i ≡ 0 = omega (arith, over) in
          let z : i - k ≡ 0 = omega (arith, over, h) in
          ap (λ n. bit_of n i) whole ∙ (ap (λ n. eqb n 1) (bit_at_cat_high (cond bit 1 0) k v i (value_fits k bits) over)
          ∙ (ap (λ j. bit_of (cond bit 1 0) j) z ∙ (first_bit bit ∙ ap (λ j. bit_at (bit ∷ bits) j) (sym e))))
    ]

-- ---- the byte of eight bits

pub byte_fits : (bits : List Bool) (from : ℕ) → byte_of bits from < 256
unfolding byte_of
byte_fits bits from = value_fits 8 (drop from bits)

pub byte_bit : (bits : List Bool) (from i : ℕ) → i < 8 → bit_of (byte_of bits from) (7 - i) ≡ bit_at bits (from + i)
unfolding byte_of
byte_bit bits from i h =
    let e : 8 - 1 - (7 - i) ≡ i = omega (arith, h) in
    value_bit 8 (drop from bits) (7 - i) (omega (arith, h)) ∙ (ap (λ j. bit_at (drop from bits) j) e ∙ get_or-drop from bits i false)

-- A byte that has the bits.
pub byte_by_bits : (bits : List Bool) (from byte : ℕ) → byte < 256 → ((i : ℕ) → i < 8 → bit_of byte (7 - i) ≡ bit_at bits (from + i)) → byte ≡ byte_of bits from
byte_by_bits bits from byte fits are =
    same_number 8 byte (byte_of bits from) fits (byte_fits bits from)
    (λ i h.
    let e : 7 - (7 - i) ≡ i = omega (arith, h) in
    let P : ℕ → Type 0 = λ j. bit_of byte j ≡ bit_of (byte_of bits from) j in
    subst P e (are (7 - i) (omega (arith, h)) ∙ sym (byte_bit bits from (7 - i) (omega (arith, h)))))

-- ---- a packed row

pub length-packed : (row : List Bool) → length (packed_row row) ≡ byte_count (length row)
length-packed row = length-map-range_with_len (λ k. byte_of row (8 * k)) 0 (byte_count (length row))

pub get_or-packed : (row : List Bool) (k : ℕ) → k < byte_count (length row) → get_or (packed_row row) k 0 ≡ byte_of row (8 * k)
get_or-packed row k h = get_or-map-range_with_len (λ k. byte_of row (8 * k)) 0 (byte_count (length row)) k k 0 h (omega arith)

-- The bits of a row are in bytes starting at a place, and zeros follow up to a whole byte.
pub record IsRowAt (bytes : List ℕ) (from : ℕ) (row : List Bool) : Type 0 where
  pub inside : from + byte_count (length row) ≤ length bytes
  pub bits : (at : ℕ) → at < 8 * byte_count (length row) → file_bit bytes from at ≡ bit_at row at

pub row_of_packed : {bytes : List ℕ} {from : ℕ} (row : List Bool) → IsAt bytes from (packed_row row) → IsRowAt bytes from row
row_of_packed {bytes} {from} row is = record {
  inside = omega (arith, is.inside, length-packed row);
  bits = λ at h.
      let k : at / 8 < byte_count (length row) = omega (arith, h) in
      let place : 8 * (at / 8) + at % 8 ≡ at = omega arith in
      ap (λ n. bit_of n (7 - at % 8)) (is.same (at / 8) (omega (arith, k, length-packed row)) ∙ get_or-packed row (at / 8) k)
      ∙ (byte_bit row (8 * (at / 8)) (at % 8) (omega arith) ∙ ap (λ j. bit_at row j) place);
}

pub packed_of_row : {bytes : List ℕ} {from : ℕ} (row : List Bool) → ((i : ℕ) → get_or bytes i 0 < 256) → IsRowAt bytes from row → IsAt bytes from (packed_row row)
packed_of_row {bytes} {from} row fits is = record {
  inside = omega (arith, is.inside, length-packed row);
  same = λ k h.
      let l : k < byte_count (length row) = omega (arith, h, length-packed row) in
      byte_by_bits row (8 * k) (get_or bytes (from + k) 0) (fits (from + k))
      (λ i below.
      let word : (8 * k + i) / 8 ≡ k = omega (arith, below) in
      let rest : (8 * k + i) % 8 ≡ i = omega (arith, below) in
      ap (λ j. bit_of (get_or bytes (from + k) 0) (7 - j)) (sym rest) ∙ (ap (λ j. bit_of (get_or bytes (from + j) 0) (7 - (8 * k + i) % 8)) (sym word) ∙ is.bits (8 * k + i) (omega (arith, l, below))))
      ∙ sym (get_or-packed row k l);
}
