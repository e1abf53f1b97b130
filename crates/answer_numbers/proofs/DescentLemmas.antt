-- The value of a number by its way: by one step, and unchanged if all that it is made of is unchanged.
use Rattle.std.proofs.Common.{◌≡◌, ◌∙◌, ℕ, zero, suc, ◌<◌, ◌≤◌, cond, refl, sym, ap, arith, inl, inr}
use Rattle.std.proofs.lemmas.Bool.{cases_lt, lt-ltb, le-ltb}
use Rattle.answer_numbers.specs.Descents.{descended, descended_within}

-- Each number below a limit leads to a lower one.
abbrev pub LeadsLower : ℕ → ℕ → (ℕ → ℕ) → Type 0
LeadsLower ends limit next = (n : ℕ) → ends ≤ n → n < limit → next n < n

module _ {A : Type 0} (ends : ℕ) (next : ℕ → ℕ) (at_end : ℕ → A) (through : ℕ → A → A) where
  abbrev within : ℕ → ℕ → A
  within k n = descended_within ends next at_end through k n

  stays : (k n : ℕ) → n < ends → within (suc k) n ≡ at_end n
  stays k n h = ap (λ b. cond b (at_end n) (through n (within k (next n)))) (lt-ltb n ends h)

  goes : (k n : ℕ) → ends ≤ n → within (suc k) n ≡ through n (within k (next n))
  goes k n h = ap (λ b. cond b (at_end n) (through n (within k (next n)))) (le-ltb n ends h)

  -- more steps than the number change nothing
  enough : (limit : ℕ) → LeadsLower ends limit next → (j k n : ℕ) → n < limit → n < j → n < k → within j n ≡ within k n
  enough limit lower zero k n l hj hk = absurd (omega (arith, hj))
  enough limit lower (suc j) zero n l hj hk = absurd (omega (arith, hk))
  enough limit lower (suc j) (suc k) n l hj hk = elim (cases_lt n ends) [
    | inl end ↦ stays j n end ∙ sym (stays k n end)
    | inr on ↦
        let low : next n < n = lower n on l in
        goes j n on ∙ (ap (through n) (enough limit lower j k (next n) (omega (arith, low, l)) (omega (arith, low, hj)) (omega (arith, low, hk))) ∙ sym (goes k n on))
  ]

  pub descended_end : (n : ℕ) → n < ends → descended ends next at_end through n ≡ at_end n
  unfolding descended
  descended_end n h = stays n n h

  pub descended_on : (limit : ℕ) → LeadsLower ends limit next → (n : ℕ) → ends ≤ n → n < limit → descended ends next at_end through n ≡ through n (descended ends next at_end through (next n))
  unfolding descended
  descended_on limit lower n h l =
      let low : next n < n = lower n h l in
      goes n n h ∙ ap (through n) (enough limit lower n (suc (next n)) (next n) (omega (arith, low, l)) low (omega arith))

-- two ways down on which all is the same
module _ {A : Type 0} (ends limit : ℕ) (next other : ℕ → ℕ) (at_end : ℕ → A) (through past : ℕ → A → A) (lower : LeadsLower ends limit next)
    (nexts : (n : ℕ) → ends ≤ n → n < limit → other n ≡ next n) (alike : (n : ℕ) → ends ≤ n → n < limit → (a : A) → past n a ≡ through n a) where
  same_within : (k n : ℕ) → n < limit → descended_within ends other at_end past k n ≡ descended_within ends next at_end through k n
  same_within zero n l = refl
  same_within (suc k) n l = elim (cases_lt n ends) [
    | inl end ↦ stays ends other at_end past k n end ∙ sym (stays ends next at_end through k n end)
    | inr on ↦
        let low : next n < n = lower n on l in
        let rest : descended_within ends other at_end past k (other n) ≡ descended_within ends next at_end through k (next n) = ap (descended_within ends other at_end past k) (nexts n on l) ∙ same_within k (next n) (omega (arith, low, l)) in
        goes ends other at_end past k n on ∙ (alike n on l (descended_within ends other at_end past k (other n)) ∙ (ap (through n) rest ∙ sym (goes ends next at_end through k n on)))
  ]

  pub descended_same : (n : ℕ) → n < limit → descended ends other at_end past n ≡ descended ends next at_end through n
  unfolding descended
  descended_same n l = same_within (suc n) n l
