-- Rows of bits as bytes: eight bits to a byte, the first one highest, with zero bits up to a whole byte.
use Rattle.std.specs.Prelude.{◌≡◌, ℕ, zero, suc, ◌+◌, ◌-◌, ◌*◌, ◌/◌, ◌%◌, ◌^◌, ◌<◌, ◌≤◌, Bool, false, List, [], ◌∷◌, drop, map, length, slice_index, if◌then◌else◌}
use Rattle.std.specs.List.{range_with_len}
use Rattle.std.specs.Int.{div_ceil}
use Rattle.net_model.specs.Rows.{bit_of}

-- The number of bytes that the given number of bits takes.
unfoldable pub byte_count : ℕ → ℕ
byte_count bits = div_ceil bits 8

-- The number of the first `k` bits, the first one as the highest. Missing bits are 0.
abbrev pub bits_value : ℕ → List Bool → ℕ
bits_value zero bits = 0
bits_value (suc k) [] = 0
bits_value (suc k) (bit ∷ bits) = (if bit then 2 ^ k else 0) + bits_value k bits

-- The byte of the eight bits starting at a place.
unfoldable pub byte_of : List Bool → ℕ → ℕ
byte_of bits from = bits_value 8 (drop from bits)

-- The bytes of a row: eight bits to a byte, the first one as the highest, and zeros up to a whole byte.
abbrev pub packed_row : List Bool → List ℕ
packed_row bits = map (λ k. byte_of bits (8 * k)) (range_with_len 0 (byte_count (length bits)))

-- The bit at a place of the bytes starting at `from`, the highest bit of each byte first.
abbrev pub file_bit : List ℕ → ℕ → ℕ → Bool
file_bit bytes from at = bit_of (slice_index bytes (from + at / 8)) (7 - at % 8)

-- The first `width` bits of the bytes starting at `from`, the highest bit of each byte first.
abbrev pub row_in : List ℕ → ℕ → ℕ → List Bool
row_in bytes from width = map (λ at. file_bit bytes from at) (range_with_len 0 width)

-- The bits after a row of `width` bits, up to a whole byte, are 0.
abbrev pub HasZeroPadding : List ℕ → ℕ → ℕ → Type 0
HasZeroPadding bytes from width = (at : ℕ) → width ≤ at → at < 8 * byte_count width → file_bit bytes from at ≡ false
