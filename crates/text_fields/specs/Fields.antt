-- Fields of a line of text: numbers and bits as digits, and texts that are cut at a byte.
use Rattle.std.specs.Prelude.{◌≡◌, ℕ, ◌<◌, ◌^◌, ◌⊎◌, Bool, List, ◌∷◌, ◌++◌, map, length, ◌==◌, Contains}
use Rattle.net_model.specs.Answer.{bit_at}
use Rattle.net_model.specs.Ascii.{digit_zero, digit_one}
use Rattle.net_model.specs.BitText.{bit_digit, bits_text}

-- a list of bytes
abbrev pub Text : Type 0
Text = List ℕ

-- The number is below 2^32, as a field may spell it.
abbrev pub IsNumber : ℕ → Type 0
IsNumber n = n < 2 ^ 32

-- the bits of digits
abbrev pub digit_bits : Text → List Bool
digit_bits digits = map (λ digit. digit == digit_one) digits

-- There are `count` bits, and at the place of each `answers` allows no other bit.
pub record AreBitsOf (answers : ℕ → Bool → Type 0) (count : ℕ) (bits : List Bool) : Type 0 where
  pub count_is : length bits ≡ count
  pub each : (at : ℕ) (bit : Bool) → at < count → answers at bit → bit ≡ bit_at bits at

-- The byte is the digit of a bit.
abbrev pub IsDigit : ℕ → Type 0
IsDigit byte = (byte ≡ digit_zero) ⊎ (byte ≡ digit_one)

-- The digits are those of these bits.
abbrev pub AreDigitsOf : List Bool → Text → Type 0
AreDigitsOf bits digits = digits ≡ map bit_digit bits

-- The digits spell the field, as bits: they are all of it, or there are none and the field is a dash.
pub record AreDigitsIn (field digits : Text) : Type 0 where
  pub digits_are : AreDigitsOf (digit_bits digits) digits
  pub field_is : bits_text (digit_bits digits) ≡ field

-- The text is cut at the first place of the byte.
pub record IsCutAt (byte : ℕ) (text front back : Text) : Type 0 where
  pub first : ¬ Contains front byte
  pub text_is : text ≡ front ++ byte ∷ back
