-- Numbers as the digits of words: one number more, and one less.
use Rattle.std.proofs.Common.{◌≡◌, ◌≢◌, ℕ, ◌+◌, ◌*◌, ◌/◌, ◌%◌, ◌^◌, ◌<◌, ◌≤◌, max, List, length, get_or, set, replicate, refl, sym, ◌∙◌, ap, arith, w64, inl, inr}
use Rattle.std.specs.Prelude.{Bool, true, false, ◌==◌, bit_and, bit_or, All}
use Rattle.std.specs.Int.{bit_not, trailing_zeros}
use Rattle.std.proofs.lemmas.Bool.{cases_eq, cases_lt, false≢true}
use Rattle.std.proofs.lemmas.List.{get_or-set_same, get_or-set_other, get_or-replicate, get_or_past, get_or_default, length-replicate}
use Rattle.std.proofs.lemmas.Nat.Bits.{bit_at-zero, bit_at_set_same, bit_at_set_other, bit_at_clear_same, bit_at_clear_other, bit_at-trailing_zeros}
use Rattle.std.proofs.lemmas.Nat.{or_lt, and_le_l}
use Rattle.std.proofs.lemmas.List.Elements.{All-set}
use Rattle.event_queue.specs.QueueFields.{has_digit, digit_of}

-- The number is the lowest of the first set, and the second set has all others.
pub record TakesLowest (old new : ℕ → Bool) (lowest : ℕ) : Type 0 where
  pub was : old lowest ≡ true
  pub lower : (n : ℕ) → n < lowest → old n ≡ false
  pub gone : new lowest ≡ false
  pub others : (n : ℕ) → (n ≡ lowest → ⊥) → new n ≡ old n

-- No digit is 1.
abbrev pub AreNone : List ℕ → Type 0
AreNone words = (n : ℕ) → digit_of words n ≡ false

digit_zero : (at : ℕ) → has_digit 0 at ≡ false
digit_zero at = ap (λ d. d == 1) (bit_at-zero at)

-- a word other than 0 has a 1 somewhere
some_digit : (word : ℕ) → 0 < word → word < 2 ^ 64 → (at : ℕ) × (at < 64) × (has_digit word at ≡ true)
some_digit word h k =
    let last = bit_at-trailing_zeros w64 word h k in
    (trailing_zeros w64 word, last.0, ap (λ d. d == 1) last.1)

same_word : (words : List ℕ) (at word m : ℕ) → at < length words → m / 64 ≡ at → digit_of (set words at word) m ≡ has_digit word (m % 64)
unfolding digit_of
same_word words at word m h e = ap (λ k. has_digit (get_or (set words at word) k 0) (m % 64)) e ∙ ap (λ w. has_digit w (m % 64)) (get_or-set_same words at word 0 h)

other_word : (words : List ℕ) (at word m : ℕ) → m / 64 ≢ at → digit_of (set words at word) m ≡ digit_of words m
unfolding digit_of
other_word words at word m ne = ap (λ w. has_digit w (m % 64)) (get_or-set_other words at (m / 64) word 0 ne)

in_word : (words : List ℕ) (at word m : ℕ) → m / 64 ≡ at → word ≡ get_or words at 0 → digit_of words m ≡ has_digit word (m % 64)
unfolding digit_of
in_word words at word m e read = ap (λ k. has_digit (get_or words k 0) (m % 64)) e ∙ ap (λ w. has_digit w (m % 64)) (sym read)

pub in_zero : (words : List ℕ) (m : ℕ) → get_or words (m / 64) 0 ≡ 0 → digit_of words m ≡ false
in_zero words m e = in_word words (m / 64) 0 m (omega arith) (sym e) ∙ digit_zero (m % 64)

pub zero_words : (words : List ℕ) (count : ℕ) → words ≡ replicate count 0 → (at : ℕ) → get_or words at 0 ≡ 0
zero_words words count e at =
    ap (λ ws. get_or ws at 0) e
    ∙ elim (cases_lt at count) as (λ _. get_or (replicate {A = ℕ} count 0) at 0 ≡ 0) [
      | inl under ↦ get_or-replicate count at 0 0 under
      | inr over ↦ get_or_past (replicate count 0) at 0 (omega (arith, length-replicate {A = ℕ} count 0))
    ]

pub all_zero : (words : List ℕ) (count : ℕ) → words ≡ replicate count 0 → AreNone words
all_zero words count e n = in_zero words n (zero_words words count e (n / 64))

pub small_zeros : (words : List ℕ) (count : ℕ) → words ≡ replicate count 0 → All (λ word. word < 2 ^ 64) words
small_zeros words count e i d h = omega (arith, get_or_default words i d 0 h, zero_words words count e i)

-- a word is 0 if none of its numbers is in the set
zero_word : (words : List ℕ) (at : ℕ) → All (λ word. word < 2 ^ 64) words → ((n : ℕ) → n / 64 ≡ at → digit_of words n ≡ false) → get_or words at 0 ≡ 0
zero_word words at small none =
    let word = get_or words at 0 in
    elim (cases_eq word 0) [
      | inl zero ↦ zero
      | inr more ↦
          let inside : at < length words = elim (cases_lt at (length words)) [ inl under ↦ under | inr over ↦ absurd (more (get_or_past words at 0 over)) ] in
          let some = some_digit word (omega arith) (small at 0 inside) in
          let digit = some.0 in
          let within : digit < 64 = some.1 in
          let number = at * 64 + digit in
          let place : number / 64 ≡ at = omega arith in
          let rest : number % 64 ≡ digit = omega arith in
          absurd (false≢true (sym (none number place) ∙ in_word words at word number place refl ∙ ap (has_digit word) rest ∙ some.2))
    ]

pub all_words_zero : (words : List ℕ) → All (λ word. word < 2 ^ 64) words → AreNone words → (at : ℕ) → get_or words at 0 ≡ 0
all_words_zero words small none at = zero_word words at small (λ n e. none n)

pub inserted : (words : List ℕ) (number word : ℕ) → number / 64 < length words
    → digit_of (set words (number / 64) (bit_or word (1 * 2 ^ (number % 64) % 2 ^ 64))) number ≡ true
inserted words number word h =
    same_word words (number / 64) (bit_or word (1 * 2 ^ (number % 64) % 2 ^ 64)) number h (omega arith)
    ∙ ap (λ d. d == 1) (bit_at_set_same w64 word (number % 64) (omega arith))

pub inserted_others : (words : List ℕ) (number word m : ℕ) → number / 64 < length words → word ≡ get_or words (number / 64) 0 → m ≢ number
    → digit_of (set words (number / 64) (bit_or word (1 * 2 ^ (number % 64) % 2 ^ 64))) m ≡ digit_of words m
inserted_others words number word m h read ne =
    let more = bit_or word (1 * 2 ^ (number % 64) % 2 ^ 64) in
    elim (cases_eq (m / 64) (number / 64)) [
      | inl same ↦
          let apart : m % 64 ≢ number % 64 = λ e. ne (omega (arith, e, same)) in
          same_word words (number / 64) more m h same ∙ ap (λ d. d == 1) (bit_at_set_other w64 word (number % 64) (omega arith) (m % 64) apart) ∙ sym (in_word words (number / 64) word m same read)
      | inr other ↦ other_word words (number / 64) more m other
    ]

-- ---- words that are written

pub small_set : (words : List ℕ) (at word : ℕ) → All (λ w. w < 2 ^ 64) words → word < 2 ^ 64 → All (λ w. w < 2 ^ 64) (set words at word)
small_set words at word small less = All-set (λ w. w < 2 ^ 64) words at word less small

pub zero_above : (words : List ℕ) (at word top more : ℕ) → ((k : ℕ) → top ≤ k → get_or words k 0 ≡ 0) → at < more → top ≤ more → (k : ℕ) → more ≤ k → get_or (set words at word) k 0 ≡ 0
zero_above words at word top more above h e k l = let ne : k ≢ at = omega arith in get_or-set_other words at k word 0 ne ∙ above k (omega arith)

pub zero_below : (words : List ℕ) (at word low less : ℕ) → ((k : ℕ) → k < low → get_or words k 0 ≡ 0) → less ≤ at → less ≤ low → (k : ℕ) → k < less → get_or (set words at word) k 0 ≡ 0
zero_below words at word low less below h e k l = let ne : k ≢ at = omega arith in get_or-set_other words at k word 0 ne ∙ below k (omega arith)

pub more_bits : (word k : ℕ) → word < 2 ^ 64 → bit_or word (1 * 2 ^ k % 2 ^ 64) < 2 ^ 64
more_bits word k h = or_lt 64 word (1 * 2 ^ k % 2 ^ 64) h (omega arith)

pub fewer_bits : (word mask : ℕ) → word < 2 ^ 64 → bit_and word mask < 2 ^ 64
fewer_bits word mask h = omega (arith, and_le_l word mask)

-- ---- the lowest number

-- the words before one are 0 if they are below `low`, or below a number with no lower number in the set, or were seen
-- to be 0
pub words_before : (words : List ℕ) (low from start at : ℕ) → All (λ word. word < 2 ^ 64) words → start ≡ max low (from / 64)
    → ((k : ℕ) → k < low → get_or words k 0 ≡ 0) → ((n : ℕ) → n < from → digit_of words n ≡ false) → ((k : ℕ) → start ≤ k → k < at → get_or words k 0 ≡ 0)
    → (k : ℕ) → k < at → get_or words k 0 ≡ 0
words_before words low from start at small is below none seen k h =
    elim (cases_lt k start) [
      | inr over ↦ seen k over h
      | inl under ↦ elim (cases_lt k low) [
        | inl lower ↦ below k lower
        | inr other ↦ zero_word words k small (λ n e. none n (omega arith))
      ]
    ]

pub none_left : (words : List ℕ) (top : ℕ) → ((k : ℕ) → k < top → get_or words k 0 ≡ 0) → ((k : ℕ) → top ≤ k → get_or words k 0 ≡ 0) → AreNone words
none_left words top before above n =
    in_zero words n
    (elim (cases_lt (n / 64) top) [
      | inl under ↦ before (n / 64) under
      | inr over ↦ above (n / 64) over
    ])

pub lowest_taken : (words : List ℕ) (at word : ℕ) → at < length words → word ≡ get_or words at 0 → 0 < word → word < 2 ^ 64 → ((k : ℕ) → k < at → get_or words k 0 ≡ 0)
    → TakesLowest (digit_of words) (digit_of (set words at (bit_and word (bit_not w64 (1 * 2 ^ (trailing_zeros w64 word) % 2 ^ 64))))) (at * 64 + trailing_zeros w64 word)
lowest_taken words at word inside read some small before =
    let digit = trailing_zeros w64 word in
    let less = bit_and word (bit_not w64 (1 * 2 ^ digit % 2 ^ 64)) in
    let last = bit_at-trailing_zeros w64 word some small in
    let within : digit < 64 = last.0 in
    let number = at * 64 + digit in
    let place : number / 64 ≡ at = omega arith in
    let rest : number % 64 ≡ digit = omega arith in
    record {
      was = in_word words at word number place read ∙ ap (has_digit word) rest ∙ ap (λ d. d == 1) last.1;
      lower = λ n h.
          elim (cases_lt (n / 64) at) [
            | inl under ↦ in_zero words n (before (n / 64) under)
            | inr over ↦
                let same : n / 64 ≡ at = omega arith in
                let lower : n % 64 < digit = omega arith in
                in_word words at word n same read ∙ ap (λ d. d == 1) (last.2 (n % 64) lower)
          ];
      gone = same_word words at less number inside place ∙ ap (has_digit less) rest ∙ ap (λ d. d == 1) (bit_at_clear_same w64 word digit within);
      others = λ n ne.
          elim (cases_eq (n / 64) at) [
            | inl same ↦
                let apart : n % 64 ≢ digit = λ e. ne (omega (arith, e, same)) in
                same_word words at less n inside same ∙ ap (λ d. d == 1) (bit_at_clear_other w64 word digit within (n % 64) (omega arith) apart) ∙ sym (in_word words at word n same read)
            | inr other ↦ other_word words at less n other
          ];
    }
