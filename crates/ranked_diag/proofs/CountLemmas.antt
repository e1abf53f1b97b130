-- How many bits of a word that were seen differ from an entry.
use Rattle.std.proofs.Common.{◌≡◌, ◌≢◌, ◌∙◌, ℕ, zero, suc, ◌+◌, ◌*◌, ◌/◌, ◌%◌, ◌<◌, ◌≤◌, ◌^◌, Bool, true, false, not, cond, eqb, List, map, length, get_or, take, refl, sym, ap, ap₂, subst, inl, inr, arith}
use Rattle.std.specs.Prelude.{count_by, sum_by, count_ones, bit_and, bit_xor, ◌&&◌}
use Rattle.std.specs.Int.{bit_at as digit_at}
use Rattle.std.specs.Int.Bits.{and_lt, xor_lt}
use Rattle.std.specs.List.{range_with_len}
use Rattle.std.specs.Simd.Lanes.{mask_l}
use Rattle.std.proofs.lemmas.Bool.{cases_eq, eq-eqb, ne_eqb}
use Rattle.std.proofs.lemmas.List.FromFn.{length-map-range_with_len, get_or-map-range_with_len}
use Rattle.std.proofs.lemmas.List.Sums.{sum_by-cons, sum_by_more, sum_by-take-le}
use Rattle.std.proofs.lemmas.Nat.Bits.{bit_at-lt, bit_at-zero, same_from_bits_below}
use Rattle.std.proofs.lemmas.Simd.{mask_l-lt, bit_mask_l, ones-mask_l}
use Rattle.net_model.specs.Answer.{bit_at}
use Rattle.net_model.specs.Rows.{bit_of, IsPacked}
use Rattle.dict_rows.specs.Rows.{IsWordOf}
use Rattle.net_model.proofs.SingleWords.{digit_and, digit_xor}
use Rattle.dict_rows.proofs.WordLemmas.{packed_bit}
use Rattle.ranked_diag.specs.declared.partial.Seen.TheVariants.{Unseen}
use Rattle.ranked_diag.specs.declared.seen_word.SeenWord.{SeenWord}
use Rattle.ranked_diag.specs.Seen.{seen_of, differs}
use Rattle.ranked_diag.specs.SeenWords.{seen_in, word_mismatches, seen_mismatches, IsBitSeen}

-- ---- counts over a range

abbrev pub one_of : (ℕ → Bool) → ℕ → ℕ
one_of p k = cond (p k) 1 0

-- tests that agree count the same
pub count-agree : (p q : ℕ → Bool) (a n : ℕ) → ((k : ℕ) → a ≤ k → k < a + n → p k ≡ q k) → count_by p (range_with_len a n) ≡ count_by q (range_with_len a n)
count-agree p q a zero agree = refl
count-agree p q a (suc n) agree =
    sum_by-cons (one_of p) a (range_with_len (a + 1) n)
    ∙ (ap₂ (λ (b : Bool) (m : ℕ). cond {A = ℕ} b 1 0 + m) (agree a (omega arith) (omega arith)) (count-agree p q (a + 1) n (λ k low high. agree k (omega (arith, low)) (omega (arith, high))))
    ∙ sym (sum_by-cons (one_of q) a (range_with_len (a + 1) n)))

-- a test that differs from another at one place only, at which the other fails, counts one more if it passes there
count-one_more : (p q : ℕ → Bool) (at a n : ℕ) → a ≤ at → at < a + n → p at ≡ false → ((k : ℕ) → a ≤ k → k < a + n → k ≢ at → q k ≡ p k)
    → count_by q (range_with_len a n) ≡ count_by p (range_with_len a n) + one_of q at
count-one_more p q at a zero low high none same = absurd (omega (arith, low, high))
count-one_more p q at a (suc n) low high none same =
    let first = sum_by-cons (one_of p) a (range_with_len (a + 1) n) in
    let second = sum_by-cons (one_of q) a (range_with_len (a + 1) n) in
    elim (cases_eq a at) [
      | inl here ↦
          let rest : count_by q (range_with_len (a + 1) n) ≡ count_by p (range_with_len (a + 1) n) =
          count-agree q p (a + 1) n (λ k above below. same k (omega (arith, above)) (omega (arith, below)) (λ e. omega (arith, above, here, e))) in
          let own : one_of q a ≡ one_of q at = ap (one_of q) here in
          let no : one_of p a ≡ 0 = ap (one_of p) here ∙ ap (λ (b : Bool). cond {A = ℕ} b 1 0) none in
          omega (arith, first, second, rest, own, no)
      | inr other ↦
          let rest = count-one_more p q at (a + 1) n (above other) (omega (arith, high)) none (λ k over below. same k (omega (arith, over)) (omega (arith, below))) in
          let own : one_of q a ≡ one_of p a = ap (λ (b : Bool). cond {A = ℕ} b 1 0) (same a (omega arith) (omega arith) other) in
          omega (arith, first, second, rest, own)
    ]
  where
    above : (a ≡ at → ⊥) → a + 1 ≤ at
    above other = omega (arith, low, other)

pub count-none : (p : ℕ → Bool) (a n : ℕ) → ((k : ℕ) → p k ≡ false) → count_by p (range_with_len a n) ≡ 0
count-none p a zero none = refl
count-none p a (suc n) none =
    let no : one_of p a ≡ 0 = ap (λ (b : Bool). cond {A = ℕ} b 1 0) (none a) in
    omega (arith, sum_by-cons (one_of p) a (range_with_len (a + 1) n), no, count-none p (a + 1) n none)

-- ---- the ones of a word

digit_back : (d : ℕ) → d < 2 → cond {A = ℕ} (eqb d 1) 1 0 ≡ d
digit_back zero h = refl
digit_back (suc zero) h = refl
digit_back (suc (suc d)) h = absurd (omega (arith, h))

pub ones-counted : (width n : ℕ) → n < 2 ^ width → count_ones n ≡ count_by (bit_of n) (range_with_len 0 width)
ones-counted width n h =
    let bits = map (bit_of n) (range_with_len 0 width) in
    let long : length bits ≡ width = length-map-range_with_len (bit_of n) 0 width in
    let small : mask_l bits < 2 ^ width = subst (λ (w : ℕ). mask_l bits < 2 ^ w) long (mask_l-lt bits) in
    let digit : (k : ℕ) → k < width → digit_at n k ≡ digit_at (mask_l bits) k =
    λ k below. sym (bit_mask_l bits k ∙ (ap (λ (b : Bool). cond {A = ℕ} b 1 0) (get_or-map-range_with_len (bit_of n) 0 width k k false below (omega arith)) ∙ digit_back (digit_at n k) (bit_at-lt n k))) in
    ap count_ones (same_from_bits_below width n (mask_l bits) h small digit) ∙ ones-mask_l (bit_of n) (range_with_len 0 width)

-- ---- words of an entry

differing : (bit one seen : Bool) → (cond bit (not one) one && seen) ≡ differs (cond seen (seen_of one) Unseen) bit
differing true true true = refl
differing true true false = refl
differing true false true = refl
differing true false false = refl
differing false true true = refl
differing false true false = refl
differing false false true = refl
differing false false false = refl

pub mismatches-counted : (entry : List Bool) (w : SeenWord) (bits : ℕ) → IsWordOf entry w.word bits → bits < 2 ^ 64 → w.seen < 2 ^ 64 → w.ones < 2 ^ 64
    → count_ones (bit_and (bit_xor bits w.ones) w.seen) ≡ word_mismatches entry w
unfolding word_mismatches
mismatches-counted entry w bits is fits seen ones =
    ones-counted 64 (bit_and (bit_xor bits w.ones) w.seen) (and_lt 64 (bit_xor bits w.ones) w.seen (xor_lt 64 bits w.ones fits ones) seen)
    ∙ count-agree _ _ 0 64 (λ k low high. bit k (omega (arith, high)))
  where
    bit : (k : ℕ) → k < 64 → bit_of (bit_and (bit_xor bits w.ones) w.seen) k ≡ differs (seen_in w k) (bit_at entry (w.word * 64 + k))
    bit k h =
        digit_and (bit_xor bits w.ones) w.seen k
        ∙ (ap (λ (b : Bool). b && bit_of w.seen k) (digit_xor bits w.ones k)
        ∙ (ap (λ (b : Bool). cond b (not (bit_of w.ones k)) (bit_of w.ones k) && bit_of w.seen k) (is.are k h) ∙ differing (bit_at entry (w.word * 64 + k)) (bit_of w.ones k) (bit_of w.seen k)))

-- one more bit, which wasn't seen yet
pub mismatches-more : (entry : List Bool) (old new : SeenWord) (at : ℕ) (one : Bool) → at < 64 → IsBitSeen old new at one → bit_of old.seen at ≡ false
    → word_mismatches entry new ≡ word_mismatches entry old + cond (differs (seen_of one) (bit_at entry (old.word * 64 + at))) 1 0
unfolding word_mismatches
mismatches-more entry old new at one h is free =
    count-one_more (test old) (test new) at 0 64 (omega arith) (omega (arith, h)) (ap (λ (b : Bool). differs (cond b (seen_of (bit_of old.ones at)) Unseen) (bit_at entry (old.word * 64 + at))) free) (λ k low high other. same k (omega (arith, high)) other)
    ∙ ap (λ (b : Bool). count_by (test old) (range_with_len 0 64) + cond {A = ℕ} b 1 0) here
  where
    test : SeenWord → ℕ → Bool
    test w k = differs (seen_in w k) (bit_at entry (w.word * 64 + k))

    same : (k : ℕ) → k < 64 → k ≢ at → test new k ≡ test old k
    same k below other =
        let no : eqb k at ≡ false = ne_eqb k at other in
        let seen : bit_of new.seen k ≡ bit_of old.seen k = is.seen k below ∙ ap (λ (b : Bool). cond b true (bit_of old.seen k)) no in
        let ones : bit_of new.ones k ≡ bit_of old.ones k = is.ones k below ∙ ap (λ (b : Bool). cond b one (bit_of old.ones k)) no in
        λ i. differs (cond (seen i) (seen_of (ones i)) Unseen) (bit_at entry (is.word i * 64 + k))

    here : test new at ≡ differs (seen_of one) (bit_at entry (old.word * 64 + at))
    here =
        let yes : eqb at at ≡ true = eq-eqb at at refl in
        let seen : bit_of new.seen at ≡ true = is.seen at h ∙ ap (λ (b : Bool). cond b true (bit_of old.seen at)) yes in
        let ones : bit_of new.ones at ≡ one = is.ones at h ∙ ap (λ (b : Bool). cond b one (bit_of old.ones at)) yes in
        λ i. differs (cond (seen i) (seen_of (ones i)) Unseen) (bit_at entry (is.word i * 64 + at))

-- a word in which nothing was seen
pub mismatches-none : (entry : List Bool) (w : SeenWord) → w.seen ≡ 0 → word_mismatches entry w ≡ 0
unfolding word_mismatches
mismatches-none entry w none = count-none _ 0 64 (λ k. ap (λ (n : ℕ). differs (cond (bit_of n k) (seen_of (bit_of w.ones k)) Unseen) (bit_at entry (w.word * 64 + k))) none
    ∙ ap (λ (d : ℕ). differs (cond (eqb d 1) (seen_of (bit_of w.ones k)) Unseen) (bit_at entry (w.word * 64 + k))) (bit_at-zero k))

-- ---- the words of a row, one after another

packed-word : (entry : List Bool) (bits : List ℕ) → IsPacked entry bits → (word : ℕ) → IsWordOf entry word (get_or bits word 0)
packed-word entry bits packed word = record {
  are = λ k h.
      let place : word ≡ 0 + (word * 64 + k) / 64 = omega (arith, h) in
      let at : k ≡ (word * 64 + k) % 64 = omega (arith, h) in
      (λ i. bit_of (get_or bits (place i) 0) (at i)) ∙ packed_bit packed (word * 64 + k);
}

module _ (entry : List Bool) (bits : List ℕ) (packed : IsPacked entry bits) (items words : List SeenWord) (all : items ≡ words) (k count more : ℕ) (w : SeenWord) (so_far : count ≡ sum_by (word_mismatches entry) (take k words)) (inside : k < length items)
    (here : get_or items k w ≡ w) (counted : (e : List Bool) → IsWordOf e w.word (get_or bits w.word 0) → more ≡ word_mismatches e w) where
  in_words : k < length words
  in_words = subst (λ (ws : List SeenWord). k < length ws) all inside

  pub count-more : count + more ≡ sum_by (word_mismatches entry) (take (k + 1) words)
  count-more =
      let own : word_mismatches entry (get_or words k w) ≡ word_mismatches entry w = ap (word_mismatches entry) (ap (λ (ws : List SeenWord). get_or ws k w) (sym all) ∙ here) in
      omega (arith, so_far, counted entry (packed-word entry bits packed w.word), own, sum_by_more (word_mismatches entry) words k w in_words)

  pub count-within : count + more ≤ seen_mismatches words entry
  count-within = omega (arith, count-more, sum_by-take-le (word_mismatches entry) words (k + 1))
