-- The first lane of some, word by word.
use Rattle.std.proofs.Common.{◌≡◌, ℕ, ◌+◌, ◌-◌, ◌*◌, ◌/◌, ◌%◌, ◌^◌, ◌<◌, ◌≤◌, Bool, true, false, eqb, List, sym, ap, ◌∙◌, arith, inl, inr}
use Rattle.std.specs.Int.{bit_at as digit_at, trailing_zeros}
use Rattle.std.proofs.Common.{w64}
use Rattle.std.proofs.lemmas.Bool.{cases_lt}
use Rattle.std.proofs.lemmas.Nat.{shr-shr, shr_le}
use Rattle.std.proofs.lemmas.Nat.Bits.{bit_at_above, bit_at-zero, bit_at-trailing_zeros}
use Rattle.net_model.specs.Rows.{bit_of}
use Rattle.net_model.specs.Answer.{bit_at}
use Rattle.word_sim.specs.declared.lanes.TheConstants.{LANES}

-- the bits of a word moved down
shifted : (word k i : ℕ) → bit_of (word / 2 ^ k) i ≡ bit_of word (k + i)
shifted word k i = ap (λ (n : ℕ). eqb (n % 2) 1) (shr-shr word k i)

module _ (lanes : List Bool) (lane word : ℕ) (small : word < 2 ^ 64) (is : (other : ℕ) → other < LANES → other / 64 ≡ lane / 64 → bit_of word (other % 64) ≡ bit_at lanes other) where
  abbrev pub moved : ℕ
  moved = word / 2 ^ (lane % 64)

  -- a bit of the word moved down is that of this lane or a later one
  lane_bit : (i : ℕ) → lane + i < LANES → lane % 64 + i < 64 → bit_of moved i ≡ bit_at lanes (lane + i)
  lane_bit i few here =
      let same : (lane + i) / 64 ≡ lane / 64 = omega (arith, here) in
      let at : (lane + i) % 64 ≡ lane % 64 + i = omega (arith, here) in
      shifted word (lane % 64) i ∙ (ap (bit_of word) (sym at) ∙ is (lane + i) few same)

  -- this lane and the later ones of the word have no 1
  pub no_lane : moved ≡ 0 → (other : ℕ) → lane ≤ other → other < LANES → other < (lane / 64 + 1) * 64 → bit_at lanes other ≡ false
  no_lane none other from few below =
      let i = other - lane in
      let at : lane + i ≡ other = omega (arith, from) in
      ap (bit_at lanes) (sym at) ∙ (sym (lane_bit i (omega (arith, few, at)) (omega (arith, below, at))) ∙ (ap (λ (n : ℕ). bit_of n i) none ∙ ap (λ (n : ℕ). eqb n 1) (bit_at-zero i)))

  module _ (some : moved ≡ 0 → ⊥) where
    abbrev pub first_one : ℕ
    first_one = trailing_zeros w64 moved

    is_first : (first_one < 64) × (digit_at moved first_one ≡ 1) × ((i : ℕ) → i < first_one → digit_at moved i ≡ 0)
    is_first = bit_at-trailing_zeros w64 moved (omega (arith, some)) (omega (arith, small, shr_le word (lane % 64)))

    -- it is a bit of the word
    inside : lane % 64 + first_one < 64
    inside = elim (cases_lt (lane % 64 + first_one) 64) [
      | inl less ↦ less
      | inr over ↦
          let none = bit_at_above word 64 (lane % 64 + first_one) small over in
          let one : digit_at word (lane % 64 + first_one) ≡ 1 = sym (ap (λ (n : ℕ). n % 2) (shr-shr word (lane % 64) first_one)) ∙ is_first.1 in
          absurd (omega (arith, none, one))
    ]

    pub found : lane + first_one < LANES → bit_at lanes (lane + first_one) ≡ true
    found few = sym (lane_bit first_one few inside) ∙ ap (λ (n : ℕ). eqb n 1) is_first.1

    pub none_before : (other : ℕ) → lane ≤ other → other < lane + first_one → other < LANES → bit_at lanes other ≡ false
    none_before other from below few =
        let i = other - lane in
        let at : lane + i ≡ other = omega (arith, from) in
        let less : i < first_one = omega (arith, below, from) in
        ap (bit_at lanes) (sym at) ∙ (sym (lane_bit i (omega (arith, few, at)) (omega (arith, inside, less))) ∙ ap (λ (n : ℕ). eqb n 1) (is_first.2 i less))
