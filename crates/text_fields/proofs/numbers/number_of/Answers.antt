use Rattle.std.proofs.Common.{◌≡◌, ◌∙◌, length, inl, inr, sym, ap, arith}
use Rattle.std.proofs.lemmas.Bool.{eqb-true, eqb-false}
use Rattle.text_fields.proofs.NumberLemmas.{first_byte, no_empty_number, no_signed_number, no_padded_number, number_read}
use Rattle.text_fields.proofs.numbers.number_of.Goals.{then-is_empty-via-then-is_empty, then-is_empty-via-else-is_empty+then-bytes-eq43}
use Rattle.text_fields.proofs.numbers.number_of.Goals as goal

pub returns-then-is_empty : goal.returns-then-is_empty
returns-then-is_empty c = λ n small e.
    let value = c.as_bytes-bytes.ensures.value in
    let field = c.args.field.now in
    elim c.then-is_empty.branch [
      | then-is_empty-via-then-is_empty w ↦ no_empty_number n field small e (sym (ap length value) ∙ eqb-true (length c.as_bytes-bytes.result.now) 0 (sym c.is_empty.ensures ∙ w.if-is_empty.true))
      | then-is_empty-via-else-is_empty+then-bytes-eq43 w ↦ no_signed_number n field small e (sym (ap first_byte value) ∙ w.if-bytes-eq43.true)
    ]

pub returns-then-bytes-gt1 : goal.returns-then-bytes-gt1
returns-then-bytes-gt1 c = λ n small e.
    let value = c.as_bytes-bytes.ensures.value in
    no_padded_number n c.args.field.now small e (sym (ap first_byte value) ∙ c.if-bytes-eq48.true) (omega (arith, c.if-bytes-gt1.true, ap length value))

pub returns : goal.returns
returns c =
    let value = c.as_bytes-bytes.ensures.value in
    let field = c.args.field.now in
    let some : length c.as_bytes-bytes.result.now ≡ 0 → ⊥ = eqb-false (length c.as_bytes-bytes.result.now) 0 (sym c.is_empty.ensures ∙ c.if-is_empty.false) in
    let alone : first_byte field ≡ 48 → length field ≡ 1 = λ e. elim c.else-bytes-eq48.either [
      | inl p ↦ omega (arith, p.1, some, ap length value)
      | inr other ↦ absurd (other (ap first_byte value ∙ e))
    ] in
    rw c.ok.ensures.value (number_read field c.parse.result c.parse.ensures.value.0 (λ e. c.if-bytes-eq43.false (ap first_byte value ∙ e)) alone)
