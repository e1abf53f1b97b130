-- Numbers as digits, and texts that are read as numbers.
use Rattle.std.proofs.Common.{◌≡◌, ◌≢◌, ◌∙◌, ℕ, ◌<◌, ◌≤◌, ◌^◌, length, get_or, Result, Ok, Err, refl, sym, ap, subst, inl, inr, arith}
use Rattle.std.specs.Prelude.{All, Contains, decimal, MatchOption}
use Rattle.std.specs.Result.{result_ok}
use Rattle.std.specs.Str.{IsUtf8}
use Rattle.std.specs.Str.Parse.{IsNumeral, AllDigits, digits_value, without_leading_plus, ParsesUnsigned}
use Rattle.std.proofs.lemmas.Bool.{cases_lt}
use Rattle.std.proofs.lemmas.Str.{IsUtf8-from_ascii}
use Rattle.std.proofs.lemmas.Fmt.{IsAscii-decimal, decimal_is_IsNumeral, decimal_injective, decimal_digit, first_decimal, parse-decimal, decimal-digits_value}
use Rattle.std.proofs.lemmas.Str.Parse.{digit_at, IsNumeralModel, numerals_by_value, tells_digits, without_leading_plus_none}
use Rattle.std.proofs.lemmas.List.Elements.{All-from_get_or, All-weaker}
use Rattle.text_fields.specs.Fields.{Text, IsNumber}
use Rattle.text_fields.proofs.Cuts.{missing_below}

abbrev pub first_byte : Text → ℕ
first_byte text = get_or text 0 0

pub number_once : (m n : ℕ) → IsNumber m → IsNumber n → decimal m ≡ decimal n → m ≡ n
number_once m n low high e = decimal_injective m n (omega (arith, low)) (omega (arith, high)) e

-- The byte is a decimal digit.
abbrev pub IsDecimalDigit : ℕ → Type 0
IsDecimalDigit b = (48 ≤ b) × (b ≤ 57)

-- a number has only digits
pub number_digits : (n : ℕ) → IsNumber n → All IsDecimalDigit (decimal n)
number_digits n small =
    let numeral = (decimal_is_IsNumeral n (omega (arith, small))).0 in
    All-from_get_or IsDecimalDigit (decimal n) 0 (λ i below. let digit = digit_at (decimal n) i numeral.1 below in (digit.0, digit.1))

-- each byte of a number is above a blank
pub number_bytes : (n : ℕ) → IsNumber n → All (λ b. 32 < b) (decimal n)
number_bytes n small = All-weaker IsDecimalDigit (λ b. 32 < b) (λ b digit. omega (arith, digit.0)) (decimal n) (number_digits n small)

pub number_without_blank : (n : ℕ) → IsNumber n → ¬ Contains (decimal n) 32
number_without_blank n small = missing_below 32 (decimal n) (number_bytes n small)

pub number_is_text : (n : ℕ) → IsNumber n → IsUtf8 (decimal n)
number_is_text n small = IsUtf8-from_ascii (decimal n) (IsAscii-decimal n (omega (arith, small)))

-- a number begins with a digit
pub first_digit : (n : ℕ) → IsNumber n → IsDecimalDigit (first_byte (decimal n))
first_digit n small =
    let numeral = (decimal_is_IsNumeral n (omega (arith, small))).0 in
    let digit = digit_at (decimal n) 0 numeral.1 numeral.0 in
    (digit.0, digit.1)

-- ---- texts that spell no number

-- a text that begins with a plus, or with a zero that isn't alone, spells no number, nor does the empty text
pub no_empty_number : (n : ℕ) (text : Text) → IsNumber n → decimal n ≡ text → length text ≡ 0 → ⊥
no_empty_number n text small e none = omega (arith, none, ap length e, (decimal_is_IsNumeral n (omega (arith, small))).0.0)

pub no_signed_number : (n : ℕ) (text : Text) → IsNumber n → decimal n ≡ text → first_byte text ≡ 43 → ⊥
no_signed_number n text small e plus = omega (arith, plus, ap first_byte e, first_digit n small)

one_zero : (n : ℕ) → n ≡ 0 → length (decimal n) ≡ 1
one_zero n e = ap (λ (k : ℕ). length (decimal k)) e ∙ ap length (decimal_digit 0 (omega arith))

pub no_padded_number : (n : ℕ) (text : Text) → IsNumber n → decimal n ≡ text → first_byte text ≡ 48 → 1 < length text → ⊥
no_padded_number n text small e begins long = elim (cases_lt 0 n) [
  | inl some ↦ omega (arith, begins, ap first_byte e, first_decimal n some (omega (arith, small)))
  | inr none ↦ omega (arith, long, ap length e, one_zero n (omega arith))
]

-- ---- digits that spell a number

digit_model : IsNumeralModel (AllDigits 10) (digits_value 10)
digit_model = numerals_by_value (AllDigits 10) tells_digits

-- what is read from other digits is the number that they spell
parsed_number : {E : Type 0} (n : ℕ) (text : Text) (r : Result ℕ E) → ParsesUnsigned 32 10 text r → r ≡ Ok n → (first_byte text ≡ 43 → ⊥) → (first_byte text ≡ 48 → length text ≡ 1) → IsNumber n × (decimal n ≡ text)
parsed_number {E} n text r parses is plain alone =
    let same : without_leading_plus text ≡ text = without_leading_plus_none text plain in
    let result : Result ℕ E = Ok n in
    let ok : ParsesUnsigned 32 10 text result = subst (ParsesUnsigned 32 10 text) is parses in
    let numeral : IsNumeral 10 text = rw same at ok.0.0 in
    let low : digits_value 10 text < 2 ^ 32 = rw same at ok.0.1 in
    let value : n ≡ digits_value 10 text = rw same at ok.1 in
    (omega (arith, low, value), ap decimal value ∙ decimal-digits_value digit_model text numeral.1 numeral.0 alone (omega (arith, low)))

unparsed_number : {E : Type 0} (n : ℕ) (text : Text) (r : Result ℕ E) (fault : E) → ParsesUnsigned 32 10 text r → r ≡ Err fault → IsNumber n → decimal n ≡ text → ⊥
unparsed_number {E} n text r fault parses is small e =
    let read : r ≡ Ok n = parse-decimal 32 n text r small (omega (arith, small)) (sym e) parses in
    let clash : ◌≡◌ {A = Result ℕ E} (Ok n) (Err fault) = sym read ∙ is in
    cc

pub number_read : {E : Type 0} (text : Text) (r : Result ℕ E) → ParsesUnsigned 32 10 text r → (first_byte text ≡ 43 → ⊥) → (first_byte text ≡ 48 → length text ≡ 1)
    → MatchOption (result_ok r) ((n : ℕ) → IsNumber n → decimal n ≢ text) (λ n. IsNumber n × (decimal n ≡ text))
number_read {E} text (Ok n) parses plain alone = parsed_number {E = E} n text (Ok n) parses refl plain alone
number_read {E} text (Err fault) parses plain alone = λ n small e. unparsed_number {E = E} n text (Err fault) fault parses refl small e
