-- Bits as digits: a text spells one list of bits, and digits that spell a field.
use Rattle.std.proofs.Common.{◌≡◌, ◌≢◌, ◌∙◌, ℕ, ◌<◌, ◌≤◌, Bool, true, false, eqb, zero, suc, ◌+◌, List, [], ◌∷◌, map, length, get_or, set, replicate, below_more, refl, sym, ap, ap₂, subst, inl, inr, arith, lit<}
use Rattle.std.specs.Prelude.{All, Contains, codes}
use Rattle.std.proofs.lemmas.Bool.{eqb-false}
use Rattle.std.proofs.lemmas.List.{ext_get_or, length-map, length-replicate, get_or-map, length-set, get_or-set_same, get_or-set_other}
use Rattle.std.proofs.lemmas.List.Elements.{All-nil, All-cons, All-map, All-weaker}
use Rattle.net_model.specs.BitText.{bit_digit, bits_text}
use Rattle.text_fields.specs.Fields.{Text, IsDigit, AreDigitsIn, digit_bits}
use Rattle.text_fields.proofs.Cuts.{tails, missing_below}
use Rattle.text_fields.proofs.NumberLemmas.{first_byte}

-- ---- one list of bits for a text

digit_once : (bit other : Bool) → bit_digit bit ≡ bit_digit other → bit ≡ other
digit_once true true e = refl
digit_once true false e = absurd (eqb-false 49 48 refl e)
digit_once false true e = absurd (eqb-false 48 49 refl e)
digit_once false false e = refl

pub digits_once : (bits others : List Bool) → map bit_digit bits ≡ map bit_digit others → bits ≡ others
digits_once [] [] e = refl
digits_once [] (other ∷ others) e = absurd (cc)
digits_once (bit ∷ bits) [] e = absurd (cc)
digits_once (bit ∷ bits) (other ∷ others) e = ap₂ (λ (x : Bool) (xs : List Bool). x ∷ xs) (digit_once bit other (tails e).0) (digits_once bits others (tails e).1)

no_dash : (bit : Bool) → bit_digit bit ≡ 45 → ⊥
no_dash true = eqb-false 49 45 refl
no_dash false = eqb-false 48 45 refl

pub bits_once : (bits others : List Bool) → bits_text bits ≡ bits_text others → bits ≡ others
bits_once [] [] e = refl
bits_once [] (other ∷ others) e = absurd (no_dash other (sym (ap first_byte e)))
bits_once (bit ∷ bits) [] e = absurd (no_dash bit (ap first_byte e))
bits_once (bit ∷ bits) (other ∷ others) e = digits_once (bit ∷ bits) (other ∷ others) e

-- ---- bytes

digit_above : (bit : Bool) → 32 < bit_digit bit
digit_above true = lit< tt
digit_above false = lit< tt

-- each byte of a field of bits is above a blank
pub bits_bytes : (bits : List Bool) → All (λ b. 32 < b) (bits_text bits)
bits_bytes [] = All-cons (λ b. 32 < b) 45 [] (lit< tt) (All-nil (λ b. 32 < b))
bits_bytes (bit ∷ bits) = All-map (λ b. 32 < b) bit_digit (bit ∷ bits) (λ k d below. digit_above (get_or (bit ∷ bits) k d))

pub bits_without_feed : (bits : List Bool) → ¬ Contains (bits_text bits) 10
bits_without_feed bits = missing_below 10 (bits_text bits) (All-weaker (λ b. 32 < b) (λ b. 10 < b) (λ b above. omega (arith, above)) (bits_text bits) (bits_bytes bits))

-- ---- digits that spell a field

digit_back : (byte : ℕ) → IsDigit byte → bit_digit (eqb byte 49) ≡ byte
digit_back byte (inl nought) = ap (λ (b : ℕ). bit_digit (eqb b 49)) nought ∙ sym nought
digit_back byte (inr one) = ap (λ (b : ℕ). bit_digit (eqb b 49)) one ∙ sym one

digits_back : (field : Text) → ((k : ℕ) → k < length field → IsDigit (get_or field k 0)) → map bit_digit (digit_bits field) ≡ field
digits_back [] digits = refl
digits_back (byte ∷ field) digits = ap₂ (λ (b : ℕ) (bs : Text). b ∷ bs) (digit_back byte (digits 0 (omega arith))) (digits_back field (λ k below. digits (suc k) (omega (arith, below))))

-- digits spell themselves, if there are some
pub digits_in : (field : Text) → (length field ≡ 0 → ⊥) → ((k : ℕ) → k < length field → IsDigit (get_or field k 0)) → AreDigitsIn field field
digits_in [] some digits = absurd (some refl)
digits_in (byte ∷ field) some digits = let e = digits_back (byte ∷ field) digits in record { digits_are = sym e; field_is = e }

is_digit : (bit : Bool) → IsDigit (bit_digit bit)
is_digit true = inr refl
is_digit false = inl refl

all_digits : (bits : List Bool) (k : ℕ) → k < length (map bit_digit bits) → IsDigit (get_or (map bit_digit bits) k 0)
all_digits [] k below = absurd (omega (arith, below))
all_digits (bit ∷ bits) zero below = is_digit bit
all_digits (bit ∷ bits) (suc k) below = all_digits bits k (omega (arith, below))

-- a field with another byte is no text of bits, except the dash
pub no_bits : (field : Text) → (field ≡ codes "-" → ⊥) → (((k : ℕ) → k < length field → IsDigit (get_or field k 0)) → ⊥) → (bits : List Bool) → bits_text bits ≡ field → ⊥
no_bits field dash other [] e = dash (sym e)
no_bits field dash other (bit ∷ bits) e = other (λ k below. subst (λ (f : Text). IsDigit (get_or f k 0)) e (all_digits (bit ∷ bits) k (omega (arith, below, ap length e))))

pub no_empty_bits : (field : Text) → length field ≡ 0 → (bits : List Bool) → bits_text bits ≡ field → ⊥
no_empty_bits field none [] e = omega (arith, none, ap length e)
no_empty_bits field none (bit ∷ bits) e = omega (arith, none, ap length e)

-- ---- bits that are read from digits so far

-- The bits before a place are those of the digits.
pub record AreBitsSoFar (digits : Text) (at : ℕ) (bits : List Bool) : Type 0 where
  pub size : length bits ≡ length digits
  pub read : (k : ℕ) → k < at → get_or bits k false ≡ eqb (get_or digits k 0) 49

pub bits_none : (digits : Text) (bits : List Bool) → bits ≡ replicate (length digits) false → AreBitsSoFar digits 0 bits
bits_none digits bits is = record { size = ap (λ (xs : List Bool). length xs) is ∙ length-replicate (length digits) false; read = λ k below. absurd (omega (arith, below)) }

pub whole_bits : (digits : Text) (at : ℕ) (bits : List Bool) → AreBitsSoFar digits at bits → length digits ≤ at → bits ≡ digit_bits digits
whole_bits digits at bits so_far past =
    ext_get_or false bits (digit_bits digits) (so_far.size ∙ sym (length-map digits (λ b. eqb b 49)))
    (λ k below. so_far.read k (omega (arith, below, so_far.size)) ∙ sym (get_or-map (λ b. eqb b 49) digits k 0 false (omega (arith, below, so_far.size))))

pub bits_more : (digits : Text) (at : ℕ) (bits : List Bool) (bit : Bool) → AreBitsSoFar digits at bits → at < length digits → bit ≡ eqb (get_or digits at 0) 49 → AreBitsSoFar digits (at + 1) (set bits at bit)
bits_more digits at bits bit so_far below is = record {
  size = length-set bits at bit ∙ so_far.size;
  read = below_more (λ k. get_or (set bits at bit) k false ≡ eqb (get_or digits k 0) 49) at
      (λ k low. let other : k ≢ at = omega (arith, low) in get_or-set_other bits at k bit false other ∙ so_far.read k low)
      (get_or-set_same bits at bit false (omega (arith, below, so_far.size)) ∙ is);
}
