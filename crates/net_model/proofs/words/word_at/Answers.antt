use Rattle.std.proofs.Common.{◌≡◌, ◌∙◌, ◌+◌, ◌-◌, ◌/◌, ◌%◌, ◌<◌, ℕ, Bool, get_or, eqb, ap, arith, inl, inr}
use Rattle.std.proofs.lemmas.Bool.{cases_lt}
use Rattle.std.proofs.lemmas.Nat.{pow_pos}
use Rattle.net_model.specs.Rows.{bit_of}
use Rattle.net_model.proofs.SingleWords.{digit_below, digit_above}
use Rattle.net_model.proofs.words.word_at.Goals as goal

pub returns : goal.returns
returns c = λ k h.
    let words = c.args.words.now in
    let at = c.args.at in
    let shift = at % 64 in
    let low = c.word_or_zero-low.result in
    let high = c.word_or_zero-high.result in
    let some : 0 < at % 64 = omega (arith, c.if-shift-eq0.false) in
    let few : at % 64 < 64 = omega arith in
    let read : ℕ → ℕ → Bool = λ place bit. bit_of (get_or words place 0) bit in
    elim (cases_lt (shift + k) 64) [
      | inl inside ↦
          let place : at / 64 ≡ 0 + (at + k) / 64 = omega (arith, inside) in
          let bit : shift + k ≡ (at + k) % 64 = omega (arith, inside) in
          ap (λ n. eqb n 1) (digit_below low high shift some few c.word_or_zero-low.type_inv k inside)
          ∙ (ap (λ n. bit_of n (shift + k)) c.word_or_zero-low.ensures ∙ (λ i. read (place i) (bit i)))
      | inr past ↦
          let place : at / 64 + 1 ≡ 0 + (at + k) / 64 = omega (arith, past, h) in
          let bit : shift + k - 64 ≡ (at + k) % 64 = omega (arith, past, h) in
          ap (λ n. eqb n 1) (digit_above low high shift some few c.word_or_zero-low.type_inv k h past (pow_pos (64 - shift)))
          ∙ (ap (λ n. bit_of n (shift + k - 64)) c.word_or_zero-high.ensures ∙ (λ i. read (place i) (bit i)))
    ]
