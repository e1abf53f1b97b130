-- The bits of a model's vector: those of the relevant sources, the first of the relevant lines, and zeros.
use Rattle.std.proofs.Common.{◌≡◌, ◌≢◌, ◌∙◌, inl, inr, ℕ, ◌+◌, ◌<◌, ◌≤◌, Bool, true, false, List, length, get_or, set, take, refl, sym, ap, subst, arith}
use Rattle.std.specs.Prelude.{Contains, map}
use Rattle.std.specs.List.{range_with_len}
use Rattle.std.proofs.lemmas.Bool.{cases_eq, cases_lt}
use Rattle.std.proofs.lemmas.List.{length-set, get_or-set_other, get_or-take, length-take-le, ext_get_or}
use Rattle.std.proofs.lemmas.List.Elements.{Contains-get_or}
use Rattle.std.proofs.lemmas.List.FromFn.{length-map-range_with_len, get_or-map-range_with_len}
use Rattle.std.proofs.lemmas.Grind.{get_or-set_at}
use Rattle.net_model.specs.declared.fault.Fault.{Fault}
use Rattle.net_model.specs.Answer.{bit_at}
use Rattle.net_model.specs.Circuit.{Circuit}
use Rattle.net_model.specs.Scope.{is_relevant, relevant_lines}
use Rattle.net_model.proofs.Elements.{true_false, Contains-from_filter}
use Rattle.net_model.proofs.Orders.{range-within}
use Rattle.pair_miter.specs.Miter.{source_bit, vector_of}
use Rattle.pair_miter.proofs.Numbers.{line_listed, lines_before, place_of_line}

-- The first `i` of the lines have their bits, and all other bits are 0.
pub record AreSourceBits (c : Circuit) (f g : Fault) (bits : List Bool) (lines : List ℕ) (i : ℕ) (v : List Bool) : Type 0 where
  pub inside : i ≤ length lines
  pub whole : length v ≡ c.sources
  pub each : (k : ℕ) → k < i → bit_at v (get_or lines k 0) ≡ source_bit c f g bits (get_or lines k 0)
  pub others : (n : ℕ) → ((k : ℕ) → k < i → get_or lines k 0 ≢ n) → bit_at v n ≡ false

module _ (c : Circuit) (f g : Fault) (bits : List Bool) where
  pub bits_more : (lines : List ℕ) (i : ℕ) (v : List Bool) (bit : Bool) → i < length lines → get_or lines i 0 < c.sources → bit ≡ source_bit c f g bits (get_or lines i 0) → AreSourceBits c f g bits lines i v
      → AreSourceBits c f g bits lines (i + 1) (set v (get_or lines i 0) bit)
  bits_more lines i v bit next inside is so_far = record {
    inside = omega (arith, next);
    whole = length-set v line bit ∙ so_far.whole;
    each = λ k h.
        elim (cases_lt k i) [
          | inl below ↦
              elim (cases_eq (get_or lines k 0) line) [
                | inl same ↦ here (get_or lines k 0) same
                | inr other ↦ get_or-set_other v line (get_or lines k 0) bit false other ∙ so_far.each k below
              ]
          | inr above ↦
              let same : k ≡ i = omega arith in
              here (get_or lines k 0) (ap (λ j. get_or lines j 0) same)
        ];
    others = λ n none.
        get_or-set_other v line n bit false (λ same. none i (omega arith) (sym same)) ∙ so_far.others n (λ k h. none k (omega (arith, h)));
  }
    where
      line : ℕ
      line = get_or lines i 0

      here : (at : ℕ) → at ≡ line → bit_at (set v line bit) at ≡ source_bit c f g bits at
      here at same = get_or-set_at v line at bit false same (omega (arith, so_far.whole, inside)) ∙ (is ∙ ap (source_bit c f g bits) (sym same))

  no_bit : (n : ℕ) → is_relevant c f g n ≡ false → source_bit c f g bits n ≡ false
  unfolding source_bit
  no_bit n irrelevant = rw irrelevant refl

  module _ (lines : List ℕ) (are : lines ≡ relevant_lines c f g) where
    -- the lines ascend
    ascend : (i k : ℕ) → i < k → k < length lines → get_or lines i 0 < get_or lines k 0
    ascend i k before inside =
        let many = length-take-le k lines (omega arith) in
        let there : Contains (take k lines) (get_or lines i 0) = subst (Contains (take k lines)) (get_or-take k lines i 0 before) (Contains-get_or (take k lines) i 0 (omega (arith, many))) in
        let line = get_or lines k 0 in
        let kept = Contains-from_filter (is_relevant c f g) (range_with_len 0 line) (get_or lines i 0) (subst (λ xs. Contains xs (get_or lines i 0)) (lines_before c f g lines are k inside) there) in
        omega (arith, (range-within 0 line (get_or lines i 0) kept.0).1)

    -- if the next line is no source, all bits are there
    pub all_bits : (i : ℕ) (v : List Bool) → (i < length lines → c.sources ≤ get_or lines i 0) → AreSourceBits c f g bits lines i v → v ≡ vector_of c f g bits
    unfolding vector_of
    all_bits i v last so_far =
        ext_get_or false v (map (source_bit c f g bits) (range_with_len 0 c.sources)) (so_far.whole ∙ sym (length-map-range_with_len (source_bit c f g bits) 0 c.sources))
        (λ n h. by n (omega (arith, h, so_far.whole)) (is_relevant c f g n) refl ∙ sym (get_or-map-range_with_len (source_bit c f g bits) 0 c.sources n n false (omega (arith, h, so_far.whole)) (omega arith)))
      where
        by : (n : ℕ) → n < c.sources → (b : Bool) → is_relevant c f g n ≡ b → bit_at v n ≡ source_bit c f g bits n
        by n h true relevant =
            let place = place_of_line c f g lines are n (omega (arith, h)) relevant in
            elim (cases_lt place.0 i) [
              | inl below ↦ subst (λ l. bit_at v l ≡ source_bit c f g bits l) place.2 (so_far.each place.0 below)
              | inr above ↦
                  let source : get_or lines place.0 0 < c.sources = omega (arith, h, place.2) in
                  let from : c.sources ≤ get_or lines i 0 = last (omega (arith, above, place.1)) in
                  elim (cases_eq i place.0) [
                    | inl same ↦ let alike = ap (λ j. get_or lines j 0) same in absurd (omega (arith, alike, source, from))
                    | inr other ↦ let rise = ascend i place.0 (omega (arith, above, other)) place.1 in absurd (omega (arith, rise, source, from))
                  ]
            ]
        by n h false irrelevant =
            so_far.others n (λ k below same.
            true_false (is_relevant c f g n) (subst (λ l. is_relevant c f g l ≡ true) same (line_listed c f g lines are k (omega (arith, below, so_far.inside))).1) irrelevant)
            ∙ sym (no_bit n irrelevant)
