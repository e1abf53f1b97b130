use Rattle.std.proofs.Common.{◌∙◌, length, refl, sym}
use Rattle.std.specs.Cmp.Lexicographic.{other_text}
use Rattle.std.proofs.lemmas.Bool.{eqb-true, eqb-false}
use Rattle.text_fields.proofs.BitLemmas.{no_empty_bits, no_bits, digits_in}
use Rattle.text_fields.proofs.digits.digits_of.Goals as goal

pub returns-then-is_empty : goal.returns-then-is_empty
returns-then-is_empty c = no_empty_bits c.args.field.now (eqb-true (length c.args.field.now) 0 (sym c.if-is_empty.ensures))

pub returns-then-not-are_digits : goal.returns-then-not-are_digits
returns-then-not-are_digits c = no_bits c.args.field.now (λ e. other_text _ _ c.if-eq.ensures (e ∙ sym c.as_slice.ensures)) (λ digits. let clash = c.if-not-are_digits.ensures.1 digits in cc)

pub returns : goal.returns
returns c = digits_in c.args.field.now (eqb-false (length c.args.field.now) 0 (sym c.if-is_empty.ensures)) (c.if-not-are_digits.ensures.0 refl)
