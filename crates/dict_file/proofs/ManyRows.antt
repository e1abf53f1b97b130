-- Rows of one width that are in bytes one after another, and numbers of four bytes.
use Rattle.std.proofs.Common.{◌≡◌, ◌∙◌, ℕ, zero, suc, ◌+◌, ◌*◌, ◌<◌, ◌≤◌, ◌^◌, Bool, false, List, [], ◌∷◌, length, get_or, take, drop, sym, ap, subst, arith, inl, inr}
use Rattle.std.specs.Prelude.{flat_map}
use Rattle.std.specs.Int.{w16, w32, from_be_bytes}
use Rattle.std.proofs.lemmas.Bool.{cases_lt}
use Rattle.std.proofs.lemmas.List.{append-nil, length-append, get_or_past, get_or-take, get_or-drop, length-take, length-take-le, length-drop}
use Rattle.std.proofs.lemmas.List.Elements.{All-tail}
use Rattle.std.proofs.lemmas.List.FromFn.{length-map-range_with_len, get_or-map-range_with_len, fill_by_all}
use Rattle.std.proofs.lemmas.Nat.{be_bytes_2, be_bytes_4}
use Rattle.byteorder.specs.Endian.{big_bytes, big_number, big_from}
use Rattle.byteorder.specs.Numbers.{big_from-take, big_number-reads_back, length-bytes_high_first}
use Rattle.net_model.specs.Answer.{bit_at}
use Rattle.net_model.specs.Rows.{AreWide}
use Rattle.dict_file.specs.Packing.{byte_count, packed_row, file_bit, row_in, HasZeroPadding}
use Rattle.dict_file.specs.Spelling.{packed_rows}
use Rattle.dict_file.specs.Reading.{number_at}
use Rattle.dict_file.proofs.Standing.{IsAt, at_none, at_first, at_second, at_both, at_cut, cut_at}
use Rattle.dict_file.proofs.BitLemmas.{fits_in, IsRowAt, length-packed, row_of_packed, packed_of_row}

-- ---- places

place_first : (from size : ℕ) → from + 0 * size ≡ from
place_first from size = omega arith

place_next : (from k size long : ℕ) → long ≡ size → from + suc k * size ≡ from + long + k * size
place_next from k size long e = omega (arith, e)

one_row_more : (first rest rows size : ℕ) → first ≡ size → rest ≡ rows * size → first + rest ≡ suc rows * size
one_row_more first rest rows size e f = omega (arith, e, f)

-- ---- rows

pub length-packed_rows : (width : ℕ) (rows : List (List Bool)) → AreWide width rows → length (packed_rows rows) ≡ length rows * byte_count width
length-packed_rows width [] wide = omega arith
length-packed_rows width (row ∷ rows) wide =
    let first : length (packed_row row) ≡ byte_count width = length-packed row ∙ ap byte_count (wide 0 [] (omega arith)) in
    let rest = length-packed_rows width rows (All-tail (λ row. length row ≡ width) row rows wide) in
    length-append (packed_row row) (packed_rows rows) ∙ one_row_more (length (packed_row row)) (length (packed_rows rows)) (length rows) (byte_count width) first rest

module _ (bytes : List ℕ) (width : ℕ) where
  pub rows_stand : (rows : List (List Bool)) (from : ℕ) → ((i : ℕ) → get_or bytes i 0 < 256) → AreWide width rows → from ≤ length bytes
      → ((k : ℕ) → k < length rows → IsRowAt bytes (from + k * byte_count width) (get_or rows k [])) → IsAt bytes from (packed_rows rows)
  rows_stand [] from fits wide within are = at_none bytes from within
  rows_stand (row ∷ rows) from fits wide within are =
      let here : from + 0 * byte_count width ≡ from = place_first from (byte_count width) in
      let size : length (packed_row row) ≡ byte_count width = length-packed row ∙ ap byte_count (wide 0 [] (omega arith)) in
      let first : IsAt bytes from (packed_row row) = packed_of_row row fits (subst (λ n. IsRowAt bytes n row) here (are 0 (omega arith))) in
      at_both (packed_row row) (packed_rows rows) first
      (rows_stand rows (from + length (packed_row row)) fits (All-tail (λ row. length row ≡ width) row rows wide) first.inside
      (λ k h.
      let e : from + suc k * byte_count width ≡ from + length (packed_row row) + k * byte_count width = place_next from k (byte_count width) (length (packed_row row)) size in
      subst (λ n. IsRowAt bytes n (get_or rows k [])) e (are (suc k) (omega (arith, h)))))

  pub stand_rows : (rows : List (List Bool)) (from : ℕ) → AreWide width rows → IsAt bytes from (packed_rows rows) → (k : ℕ) → k < length rows → IsRowAt bytes (from + k * byte_count width) (get_or rows k [])
  stand_rows [] from wide is k h = absurd (omega (arith, h))
  stand_rows (row ∷ rows) from wide is zero h =
      let here : from ≡ from + zero * byte_count width = sym (place_first from (byte_count width)) in
      subst (λ n. IsRowAt bytes n row) here (row_of_packed row (at_first (packed_row row) (packed_rows rows) is))
  stand_rows (row ∷ rows) from wide is (suc k) h =
      let size : length (packed_row row) ≡ byte_count width = length-packed row ∙ ap byte_count (wide 0 [] (omega arith)) in
      let e : from + length (packed_row row) + k * byte_count width ≡ from + suc k * byte_count width = sym (place_next from k (byte_count width) (length (packed_row row)) size) in
      subst (λ n. IsRowAt bytes n (get_or rows k [])) e
      (stand_rows rows (from + length (packed_row row)) (All-tail (λ row. length row ≡ width) row rows wide) (at_second (packed_row row) (packed_rows rows) is) k (omega (arith, h)))

-- ---- the bits that stand there

pub length-row_in : (bytes : List ℕ) (from width : ℕ) → length (row_in bytes from width) ≡ width
length-row_in bytes from width = length-map-range_with_len (λ at. file_bit bytes from at) 0 width

pub bit-row_in : (bytes : List ℕ) (from width at : ℕ) → at < width → bit_at (row_in bytes from width) at ≡ file_bit bytes from at
bit-row_in bytes from width at h = get_or-map-range_with_len (λ at. file_bit bytes from at) 0 width at at false h (omega arith)

pub row_at_in : (bytes : List ℕ) (from width : ℕ) → from + byte_count width ≤ length bytes → HasZeroPadding bytes from width → IsRowAt bytes from (row_in bytes from width)
row_at_in bytes from width within zeros =
    let long = length-row_in bytes from width in record {
      inside = subst (λ n. from + byte_count n ≤ length bytes) (sym long) within;
      bits = λ at h. elim (cases_lt at width) [
        | inl low ↦ sym (bit-row_in bytes from width at low)
        | inr over ↦ zeros at over (subst (λ n. at < 8 * byte_count n) long h) ∙ sym (get_or_past (row_in bytes from width) at false (omega (arith, over, long)))
      ];
    }

pub row_in_at : (bytes : List ℕ) (from width : ℕ) (row : List Bool) → IsRowAt bytes from row → length row ≡ width → row_in bytes from width ≡ row
row_in_at bytes from width row is long =
    sym (fill_by_all (λ at. file_bit bytes from at) row width false long (λ at h. sym (is.bits at (omega (arith, h, ap byte_count long, fits_in width)))))

pub padding_at : (bytes : List ℕ) (from width : ℕ) (row : List Bool) → IsRowAt bytes from row → length row ≡ width → HasZeroPadding bytes from width
padding_at bytes from width row is long at over h =
    is.bits at (subst (λ n. at < 8 * byte_count n) (sym long) h) ∙ get_or_past row at false (omega (arith, over, long))

-- ---- numbers

pub length-big : (n x : ℕ) → length (big_bytes n x) ≡ n
length-big n x = length-bytes_high_first n x

-- The bytes of a number are read as the number.
pub number_stands : (bytes : List ℕ) (from n x : ℕ) → x < 256 ^ n → IsAt bytes from (big_bytes n x) → big_number n (drop from bytes) ≡ x
number_stands bytes from n x small is =
    let cut : take n (drop from bytes) ≡ big_bytes n x = ap (λ k. take k (drop from bytes)) (sym (length-big n x)) ∙ at_cut (big_bytes n x) is in
    sym (big_from-take 0 n n (drop from bytes) (omega arith))
    ∙ (ap (big_from 0 n) (cut ∙ sym (append-nil (big_bytes n x))) ∙ big_number-reads_back n x [] small)

four_number : (bs : List ℕ) → big_from 0 4 bs ≡ from_be_bytes w32 bs
four_number bs = omega arith

two_number : (bs : List ℕ) → big_from 0 2 bs ≡ from_be_bytes w16 bs
two_number bs = omega arith

-- A number that is read has the bytes that are there.
module _ (bytes : List ℕ) (from : ℕ) (fits : (i : ℕ) → get_or bytes i 0 < 256) where
  cut_fits : (n i : ℕ) → get_or (take n (drop from bytes)) i 0 < 256
  cut_fits n i = elim (cases_lt i n) [
    | inl low ↦ let e = get_or-take n (drop from bytes) i 0 low ∙ get_or-drop from bytes i 0 in omega (arith, e, fits (from + i))
    | inr over ↦ let e = get_or_past (take n (drop from bytes)) i 0 (omega (arith, over, length-take n (drop from bytes))) in omega (arith, e)
  ]

  pub four_stand : from + 4 ≤ length bytes → IsAt bytes from (big_bytes 4 (number_at bytes from))
  four_stand within =
      let four = take 4 (drop from bytes) in
      let long : length four ≡ 4 = length-take-le 4 (drop from bytes) (omega (arith, within, length-drop from bytes)) in
      let read : number_at bytes from ≡ from_be_bytes w32 four = sym (big_from-take 0 4 4 (drop from bytes) (omega arith)) ∙ four_number four in
      cut_at (big_bytes 4 (number_at bytes from)) 4 (length-big 4 (number_at bytes from)) within (sym (be_bytes_4 four (number_at bytes from) long (cut_fits 4) read))

  pub two_stand : from + 2 ≤ length bytes → IsAt bytes from (big_bytes 2 (big_number 2 (drop from bytes)))
  two_stand within =
      let two = take 2 (drop from bytes) in
      let long : length two ≡ 2 = length-take-le 2 (drop from bytes) (omega (arith, within, length-drop from bytes)) in
      let read : big_number 2 (drop from bytes) ≡ from_be_bytes w16 two = sym (big_from-take 0 2 2 (drop from bytes) (omega arith)) ∙ two_number two in
      cut_at (big_bytes 2 (big_number 2 (drop from bytes))) 2 (length-big 2 (big_number 2 (drop from bytes))) within (sym (be_bytes_2 two (big_number 2 (drop from bytes)) long (cut_fits 2) read))

-- ---- numbers one after another

pub length-numbers : (ns : List ℕ) → length (flat_map (big_bytes 4) ns) ≡ 4 * length ns
length-numbers [] = omega arith
length-numbers (n ∷ ns) = omega (arith, length-append (big_bytes 4 n) (flat_map (big_bytes 4) ns), length-big 4 n, length-numbers ns)

module _ (bytes : List ℕ) where
  pub numbers_stand : (ns : List ℕ) (from : ℕ) → from ≤ length bytes → ((k : ℕ) → k < length ns → IsAt bytes (from + 4 * k) (big_bytes 4 (get_or ns k 0))) → IsAt bytes from (flat_map (big_bytes 4) ns)
  numbers_stand [] from within are = at_none bytes from within
  numbers_stand (n ∷ ns) from within are =
      let here : from + 4 * 0 ≡ from = omega arith in
      let first : IsAt bytes from (big_bytes 4 n) = subst (λ at. IsAt bytes at (big_bytes 4 n)) here (are 0 (omega arith)) in
      at_both (big_bytes 4 n) (flat_map (big_bytes 4) ns) first
      (numbers_stand ns (from + length (big_bytes 4 n)) first.inside
      (λ k h.
      let e : from + 4 * suc k ≡ from + length (big_bytes 4 n) + 4 * k = omega (arith, length-big 4 n) in
      subst (λ at. IsAt bytes at (big_bytes 4 (get_or ns k 0))) e (are (suc k) (omega (arith, h)))))

  pub stand_numbers : (ns : List ℕ) (from : ℕ) → IsAt bytes from (flat_map (big_bytes 4) ns) → (k : ℕ) → k < length ns → IsAt bytes (from + 4 * k) (big_bytes 4 (get_or ns k 0))
  stand_numbers [] from is k h = absurd (omega (arith, h))
  stand_numbers (n ∷ ns) from is zero h =
      let here : from ≡ from + 4 * zero = omega arith in
      subst (λ at. IsAt bytes at (big_bytes 4 n)) here (at_first (big_bytes 4 n) (flat_map (big_bytes 4) ns) is)
  stand_numbers (n ∷ ns) from is (suc k) h =
      let e : from + length (big_bytes 4 n) + 4 * k ≡ from + 4 * suc k = omega (arith, length-big 4 n) in
      subst (λ at. IsAt bytes at (big_bytes 4 (get_or ns k 0))) e
      (stand_numbers ns (from + length (big_bytes 4 n)) (at_second (big_bytes 4 n) (flat_map (big_bytes 4) ns) is) k (omega (arith, h)))
