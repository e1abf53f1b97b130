-- The binary digits of words, as bits by lane.
use Rattle.std.proofs.Common.{◌≡◌, ◌≢◌, ℕ, zero, suc, ◌+◌, ◌-◌, ◌/◌, ◌%◌, ◌^◌, ◌<◌, ◌≤◌, ◌⊎◌, ◌*◌, List, [], ◌∷◌, ◌++◌, length, get_or, set, map, replicate, refl, sym, ◌∙◌, ap, subst, arith, w64, inl, inr, ◌↔◌, IsTrue}
use Rattle.std.specs.Prelude.{Bool, true, false, not, ◌==◌, bit_or}
use Rattle.std.specs.Int.{bit_not}
use Rattle.std.proofs.lemmas.Bool.{cases_eq, cases_lt, false≢true}
use Rattle.std.proofs.lemmas.Bool.Decides.{nat_tests}
use Rattle.std.specs.Simd.Lanes.{zip2, fold_l}
use Rattle.std.proofs.lemmas.List.{length-append, get_or_append_left, get_or-append-add, length-map, get_or-map, length-replicate, get_or-replicate, length-set, get_or-set_same, get_or-set_other}
use Rattle.std.proofs.lemmas.Simd.{length-zip2, get_or-zip2}
use Rattle.std.proofs.lemmas.Nat.{le_or_l, le_or_r}
use Rattle.std.proofs.lemmas.Nat.Bits.{bit_at_lowest, bit_at-suc}
use Rattle.net_model.specs.Answer.{bit_at}
use Rattle.net_model.specs.Rows.{bit_of}
use Rattle.net_model.proofs.SingleWords.{digit_not, digit_zero, some_digit}
use Rattle.word_sim.specs.Lanes.{low_digits, lanes_of}
use Rattle.word_sim.specs.LanesFields.{AreFourWords, length-low_digits}
use Rattle.word_sim.specs.declared.lanes.TheConstants.{LANES}

pub low_digit : (n word lane : ℕ) → lane < n → bit_at (low_digits n word) lane ≡ bit_of word lane
low_digit zero word lane h = absurd (omega arith)
low_digit (suc n) word zero h = ap (λ d. d == 1) (sym (bit_at_lowest word))
low_digit (suc n) word (suc lane) h = low_digit n (word / 2) lane (omega arith) ∙ ap (λ d. d == 1) (sym (bit_at-suc word lane))

-- the bit of a lane is a digit of its word
pub lane_digit : (words : List ℕ) (lane : ℕ) → lane < 64 * length words → bit_at (lanes_of words) lane ≡ bit_of (get_or words (lane / 64) 0) (lane % 64)
unfolding lanes_of
lane_digit [] lane h = absurd (omega arith)
lane_digit (word ∷ words) lane h =
    let digits = low_digits 64 word in
    let long : length digits ≡ 64 = length-low_digits 64 word in
    elim (cases_lt lane 64) [
      | inl first ↦
          let place : 0 ≡ lane / 64 = omega arith in
          let at : lane ≡ lane % 64 = omega arith in
          get_or_append_left digits (lanes_of words) false lane (omega arith) ∙ low_digit 64 word lane first ∙ (λ i. bit_of (get_or (word ∷ words) (place i) 0) (at i))
      | inr later ↦
          let on : lane ≡ length digits + (lane - 64) = omega arith in
          let place : suc ((lane - 64) / 64) ≡ lane / 64 = omega arith in
          let at : (lane - 64) % 64 ≡ lane % 64 = omega arith in
          ap (λ n. bit_at (digits ++ lanes_of words) n) on ∙ get_or-append-add digits (lanes_of words) (lane - 64) false
          ∙ lane_digit words (lane - 64) (omega arith) ∙ (λ i. bit_of (get_or (word ∷ words) (place i) 0) (at i))
    ]

pub length-lanes_of : (words : List ℕ) → length (lanes_of words) ≡ 64 * length words
unfolding lanes_of
length-lanes_of [] = refl
length-lanes_of (word ∷ words) = omega (arith, length-append (low_digits 64 word) (lanes_of words), length-low_digits 64 word, length-lanes_of words)

-- an operation that works digit by digit on words works lane by lane
pub both_lanes : (op : ℕ → ℕ → ℕ) (test : Bool → Bool → Bool) → ((a b lane : ℕ) → bit_of (op a b) lane ≡ test (bit_of a lane) (bit_of b lane))
    → (a b : List ℕ) → AreFourWords a → AreFourWords b → (lane : ℕ) → lane < LANES → bit_at (lanes_of (zip2 op a b)) lane ≡ test (bit_at (lanes_of a) lane) (bit_at (lanes_of b) lane)
both_lanes op test digits a b first second lane h =
    let long : length (zip2 op a b) ≡ 4 = omega (arith, length-zip2 op a b (first.four ∙ sym second.four), first.four) in
    let word : get_or (zip2 op a b) (lane / 64) 0 ≡ op (get_or a (lane / 64) 0) (get_or b (lane / 64) 0) =
    get_or-zip2 op a b (lane / 64) 0 0 0 (omega (arith, h, first.four)) (omega (arith, h, second.four)) in
    lane_digit (zip2 op a b) lane (omega arith) ∙ ap (λ w. bit_of w (lane % 64)) word ∙ digits (get_or a (lane / 64) 0) (get_or b (lane / 64) 0) (lane % 64)
    ∙ sym (λ i. test (lane_digit a lane (omega (arith, h, first.four)) i) (lane_digit b lane (omega (arith, h, second.four)) i))

pub both_words : (op : ℕ → ℕ → ℕ) → ((a b : ℕ) → a < 2 ^ 64 → b < 2 ^ 64 → op a b < 2 ^ 64) → (a b : List ℕ) → AreFourWords a → AreFourWords b → AreFourWords (zip2 op a b)
both_words op keeps a b first second = record {
  four = length-zip2 op a b (first.four ∙ sym second.four) ∙ first.four;
  small = λ at h.
      let below : at < 4 = subst (λ n. at < n) (length-zip2 op a b (first.four ∙ sym second.four) ∙ first.four) h in
      let in_first : at < length a = omega (arith, below, first.four) in
      let in_second : at < length b = omega (arith, below, second.four) in
      subst (λ n. n < 2 ^ 64) (sym (get_or-zip2 op a b at 0 0 0 in_first in_second)) (keeps (get_or a at 0) (get_or b at 0) (first.small at in_first) (second.small at in_second));
}

pub not_words : (words : List ℕ) → AreFourWords words → AreFourWords (map (bit_not w64) words)
not_words words is = record {
  four = length-map words (bit_not w64) ∙ is.four;
  small = λ at h.
      let inside : at < length words = subst (λ n. at < n) (length-map words (bit_not w64)) h in
      let word : get_or (map (bit_not w64) words) at 0 ≡ bit_not w64 (get_or words at 0) = get_or-map (bit_not w64) words at 0 0 inside in
      omega (arith, word);
}

pub not_lane : (words : List ℕ) → AreFourWords words → (lane : ℕ) → lane < LANES → bit_at (lanes_of (map (bit_not w64) words)) lane ≡ not (bit_at (lanes_of words) lane)
not_lane words is lane h =
    let inside : lane / 64 < length words = omega (arith, h, is.four) in
    lane_digit (map (bit_not w64) words) lane (omega (arith, h, is.four, length-map words (bit_not w64)))
    ∙ ap (λ w. bit_of w (lane % 64)) (get_or-map (bit_not w64) words (lane / 64) 0 0 inside)
    ∙ digit_not (get_or words (lane / 64) 0) (lane % 64) (is.small (lane / 64) inside) (omega arith)
    ∙ sym (ap not (lane_digit words lane (omega (arith, h, is.four))))

-- ---- the same word four times, four words, and one word written

pub splat_words : (word : ℕ) → word < 2 ^ 64 → AreFourWords (replicate 4 word)
splat_words word h = record {
  four = length-replicate 4 word;
  small = λ at l. subst (λ n. n < 2 ^ 64) (sym (get_or-replicate 4 at word 0 (omega (arith, l, length-replicate 4 word)))) h;
}

pub splat_lane : (word lane : ℕ) → lane < LANES → bit_at (lanes_of (replicate 4 word)) lane ≡ bit_of word (lane % 64)
splat_lane word lane h =
    lane_digit (replicate 4 word) lane (omega (arith, h, length-replicate 4 word)) ∙ ap (λ w. bit_of w (lane % 64)) (get_or-replicate 4 (lane / 64) word 0 (omega arith))

four_digits : (bit : ℕ → Bool) (a b c d : ℕ) → ((at : ℕ) → at < 64 → bit_of a at ≡ bit (0 + at)) → ((at : ℕ) → at < 64 → bit_of b at ≡ bit (64 + at))
    → ((at : ℕ) → at < 64 → bit_of c at ≡ bit (128 + at)) → ((at : ℕ) → at < 64 → bit_of d at ≡ bit (192 + at))
    → (k at : ℕ) → k < 4 → at < 64 → bit_of (get_or (a ∷ b ∷ c ∷ d ∷ []) k 0) at ≡ bit (64 * k + at)
four_digits bit a b c d first second third fourth zero at h l = first at l
four_digits bit a b c d first second third fourth (suc zero) at h l = second at l
four_digits bit a b c d first second third fourth (suc (suc zero)) at h l = third at l
four_digits bit a b c d first second third fourth (suc (suc (suc zero))) at h l = fourth at l
four_digits bit a b c d first second third fourth (suc (suc (suc (suc k)))) at h l = absurd (omega arith)

pub four_lanes : (bit : ℕ → Bool) (a b c d : ℕ) → ((at : ℕ) → at < 64 → bit_of a at ≡ bit (0 + at)) → ((at : ℕ) → at < 64 → bit_of b at ≡ bit (64 + at))
    → ((at : ℕ) → at < 64 → bit_of c at ≡ bit (128 + at)) → ((at : ℕ) → at < 64 → bit_of d at ≡ bit (192 + at))
    → (lane : ℕ) → lane < LANES → bit_at (lanes_of (a ∷ b ∷ c ∷ d ∷ [])) lane ≡ bit lane
four_lanes bit a b c d first second third fourth lane h =
    let place : 64 * (lane / 64) + lane % 64 ≡ lane = omega arith in
    lane_digit (a ∷ b ∷ c ∷ d ∷ []) lane h ∙ four_digits bit a b c d first second third fourth (lane / 64) (lane % 64) (omega arith) (omega arith) ∙ ap bit place

pub four_words : (a b c d : ℕ) → a < 2 ^ 64 → b < 2 ^ 64 → c < 2 ^ 64 → d < 2 ^ 64 → AreFourWords (a ∷ b ∷ c ∷ d ∷ [])
four_words a b c d first second third fourth = record { four = refl; small = below }
  where
    below : (at : ℕ) → at < 4 → get_or (a ∷ b ∷ c ∷ d ∷ []) at 0 < 2 ^ 64
    below zero h = first
    below (suc zero) h = second
    below (suc (suc zero)) h = third
    below (suc (suc (suc zero))) h = fourth
    below (suc (suc (suc (suc k)))) h = absurd (omega arith)

pub set_words : (words : List ℕ) (at word : ℕ) → AreFourWords words → word < 2 ^ 64 → AreFourWords (set words at word)
set_words words at word is h = record {
  four = length-set words at word ∙ is.four;
  small = λ k l.
      let inside : k < length words = subst (λ n. k < n) (length-set words at word) l in
      elim (cases_eq k at) [
        | inl same ↦ subst (λ j. get_or (set words at word) j 0 < 2 ^ 64) (sym same) (subst (λ n. n < 2 ^ 64) (sym (get_or-set_same words at word 0 (subst (λ j. j < length words) same inside))) h)
        | inr ne ↦ subst (λ n. n < 2 ^ 64) (sym (get_or-set_other words at k word 0 ne)) (is.small k inside)
      ];
}

pub set_here : (words : List ℕ) (at word : ℕ) → AreFourWords words → (lane : ℕ) → lane < LANES → lane / 64 ≡ at → bit_at (lanes_of (set words at word)) lane ≡ bit_of word (lane % 64)
set_here words at word is lane h e =
    lane_digit (set words at word) lane (omega (arith, h, is.four, length-set words at word))
    ∙ ap (λ k. bit_of (get_or (set words at word) k 0) (lane % 64)) e
    ∙ ap (λ w. bit_of w (lane % 64)) (get_or-set_same words at word 0 (omega (arith, h, e, is.four)))

pub set_beside : (words : List ℕ) (at word : ℕ) → AreFourWords words → (lane : ℕ) → lane < LANES → lane / 64 ≢ at → bit_at (lanes_of (set words at word)) lane ≡ bit_at (lanes_of words) lane
set_beside words at word is lane h ne =
    lane_digit (set words at word) lane (omega (arith, h, is.four, length-set words at word))
    ∙ ap (λ w. bit_of w (lane % 64)) (get_or-set_other words at (lane / 64) word 0 ne)
    ∙ sym (lane_digit words lane (omega (arith, h, is.four)))

test_of_zero : (word : ℕ) → word ≡ 0 → (not (word == 0)) ≡ false
test_of_zero word e = grind (arith, nat_tests)

test_of_more : (word : ℕ) → 0 < word → (not (word == 0)) ≡ true
test_of_more word h = grind (arith, nat_tests)

-- ---- words that have a digit 1 among them

fold_more : (first : ℕ) (words : List ℕ) → first ≤ fold_l bit_or first words
fold_more first [] = omega arith
fold_more first (word ∷ words) = omega (arith, le_or_l first word, fold_more (bit_or first word) words)

fold_has : (first : ℕ) (words : List ℕ) (at : ℕ) → at < length words → get_or words at 0 ≤ fold_l bit_or first words
fold_has first [] at h = absurd (omega arith)
fold_has first (word ∷ words) zero h = omega (arith, le_or_r first word, fold_more (bit_or first word) words)
fold_has first (word ∷ words) (suc at) h = fold_has (bit_or first word) words at (omega arith)

fold_none : (first : ℕ) (words : List ℕ) → first ≡ 0 → ((at : ℕ) → at < length words → get_or words at 0 ≡ 0) → fold_l bit_or first words ≡ 0
fold_none first [] e none = e
fold_none first (word ∷ words) e none = fold_none (bit_or first word) words (λ i. bit_or (e i) (none 0 (omega arith) i)) (λ at h. none (suc at) (omega arith))

abbrev SomeWord : List ℕ → Type 0
SomeWord words = (at : ℕ) × (at < length words) × (0 < get_or words at 0)

some_or_none : (words : List ℕ) → SomeWord words ⊎ ((at : ℕ) → at < length words → get_or words at 0 ≡ 0)
some_or_none [] = inr (λ at h. absurd (omega arith))
some_or_none (word ∷ words) = elim (cases_eq word 0) [
  | inl zeros ↦ elim (some_or_none words) [
    | inl (at, h, more) ↦ inl (suc at, omega arith, more)
    | inr none ↦ inr (λ at h. none_before word words zeros none at h)
  ]
  | inr more ↦ inl (0, omega arith, omega arith)
]
  where
    none_before : (word : ℕ) (words : List ℕ) → word ≡ 0 → ((at : ℕ) → at < length words → get_or words at 0 ≡ 0) → (at : ℕ) → at < suc (length words) → get_or (word ∷ words) at 0 ≡ 0
    none_before word words e none zero h = e
    none_before word words e none (suc at) h = none at (omega arith)

pub some_lane : (words : List ℕ) → AreFourWords words → IsTrue (not (fold_l bit_or 0 words == 0)) ↔ ((lane : ℕ) × (lane < LANES) × IsTrue (bit_at (lanes_of words) lane))
some_lane words is = elim (some_or_none words) [
  | inr none ↦ (
    λ t. absurd (false≢true (subst IsTrue (test_of_zero (fold_l bit_or 0 words) (fold_none 0 words refl none)) t)),
    λ (lane, h, t). absurd (false≢true (subst IsTrue
        (lane_digit words lane (omega (arith, h, is.four)) ∙ ap (λ w. bit_of w (lane % 64)) (none (lane / 64) (omega (arith, h, is.four))) ∙ digit_zero (lane % 64)) t)),
  )
  | inl (at, h, more) ↦ (
    λ t.
        let (digit, below, one) = some_digit (get_or words at 0) more (is.small at h) in
        let place : at ≡ (64 * at + digit) / 64 = omega arith in
        let within : digit ≡ (64 * at + digit) % 64 = omega arith in (
          64 * at + digit,
          omega (arith, h, below, is.four),
          lane_digit words (64 * at + digit) (omega (arith, h, below)) ∙ sym (λ i. bit_of (get_or words (place i) 0) (within i)) ∙ one,
        ),
    λ t. test_of_more (fold_l bit_or 0 words) (omega (arith, more, fold_has 0 words at h)),
  )
]
