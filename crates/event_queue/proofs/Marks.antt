-- The marks that words have, and sets of marks.
use Rattle.std.proofs.Common.{◌≡◌, ◌≢◌, ℕ, ◌+◌, ◌*◌, ◌/◌, ◌%◌, ◌^◌, ◌<◌, ◌≤◌, List, length, get_or, set, sym, ◌∙◌, ap, arith, w64, inl, inr}
use Rattle.std.specs.Prelude.{Bool, true, false, bit_and, bit_or}
use Rattle.std.specs.Int.{bit_not, trailing_zeros}
use Rattle.std.specs.List.{range_with_len}
use Rattle.std.proofs.lemmas.Bool.{cases_eq, cases_lt, false≢true}
use Rattle.std.proofs.lemmas.List.{length-map, get_or-map, get_or_past}
use Rattle.std.proofs.lemmas.List.FromFn.{length-range_with_len, get_or-range_with_len}
use Rattle.event_queue.specs.Pending.{is_pending, IsEmpty, IsLowest}
use Rattle.event_queue.specs.QueueFields.{digit_of, marks_below}
use Rattle.event_queue.proofs.Words.{AreNone, inserted, inserted_others, lowest_taken}

pub marks_count : (count : ℕ) (words : List ℕ) → length (marks_below count words) ≡ count
marks_count count words = length-map (range_with_len 0 count) (digit_of words) ∙ length-range_with_len 0 count

-- if no digit past the count is 1, the marks are the digits
pub mark_is : (count : ℕ) (words : List ℕ) → ((n : ℕ) → count ≤ n → digit_of words n ≡ false) → (n : ℕ) → is_pending (marks_below count words) n ≡ digit_of words n
mark_is count words spare n =
    let long = length-range_with_len 0 count in
    elim (cases_lt n count) [
      | inl below ↦ get_or-map (digit_of words) (range_with_len 0 count) n n false (omega (arith, long)) ∙ ap (digit_of words) (get_or-range_with_len 0 count n n below ∙ omega arith)
      | inr past ↦ get_or_past (marks_below count words) n false (omega (arith, marks_count count words)) ∙ sym (spare n past)
    ]

-- ---- one number more

-- The number is in `more`, besides all those that are in `words`.
pub record HasOneMore (count number : ℕ) (words more : List ℕ) : Type 0 where
  pub spare : (n : ℕ) → count ≤ n → digit_of more n ≡ false
  pub here : is_pending (marks_below count more) number ≡ true
  pub others : (n : ℕ) → n ≢ number → is_pending (marks_below count more) n ≡ is_pending (marks_below count words) n

pub one_more : (count number : ℕ) (words : List ℕ) (word : ℕ) → ((n : ℕ) → count ≤ n → digit_of words n ≡ false) → number < count → number / 64 < length words → word ≡ get_or words (number / 64) 0
    → HasOneMore count number words (set words (number / 64) (bit_or word (1 * 2 ^ (number % 64) % 2 ^ 64)))
one_more count number words word spare below inside read =
    let more = set words (number / 64) (bit_or word (1 * 2 ^ (number % 64) % 2 ^ 64)) in
    let others : (n : ℕ) → n ≢ number → digit_of more n ≡ digit_of words n = λ n ne. inserted_others words number word n inside read ne in
    let still_spare : (n : ℕ) → count ≤ n → digit_of more n ≡ false = λ n h. let ne : n ≢ number = omega arith in others n ne ∙ spare n h in
    record {
      spare = still_spare;
      here = mark_is count more still_spare number ∙ inserted words number word inside;
      others = λ n ne. mark_is count more still_spare n ∙ others n ne ∙ sym (mark_is count words spare n);
    }

-- ---- the lowest number

pub none_is : (count : ℕ) (words : List ℕ) → ((n : ℕ) → count ≤ n → digit_of words n ≡ false) → AreNone words → IsEmpty (marks_below count words)
none_is count words spare none n = mark_is count words spare n ∙ none n

-- if no number below `from` is in the set, its digits are 0
pub low_digits : (count : ℕ) (words : List ℕ) (from : ℕ) → ((n : ℕ) → count ≤ n → digit_of words n ≡ false) → ((n : ℕ) → n < from → is_pending (marks_below count words) n ≡ false) → (n : ℕ) → n < from → digit_of words n ≡ false
low_digits count words from spare none n h = sym (mark_is count words spare n) ∙ none n h

-- The number is the lowest in `words`, and `less` has all others.
pub record HasOneLess (count lowest : ℕ) (words less : List ℕ) : Type 0 where
  pub spare : (n : ℕ) → count ≤ n → digit_of less n ≡ false
  pub lowest_is : IsLowest (marks_below count words) (marks_below count less) lowest

pub one_less : (count at word : ℕ) (words : List ℕ) → ((n : ℕ) → count ≤ n → digit_of words n ≡ false) → at < length words → word ≡ get_or words at 0 → 0 < word → word < 2 ^ 64 → ((k : ℕ) → k < at → get_or words k 0 ≡ 0)
    → HasOneLess count (at * 64 + trailing_zeros w64 word) words (set words at (bit_and word (bit_not w64 (1 * 2 ^ (trailing_zeros w64 word) % 2 ^ 64))))
one_less count at word words spare inside read some small before =
    let lowest = at * 64 + trailing_zeros w64 word in
    let less = set words at (bit_and word (bit_not w64 (1 * 2 ^ (trailing_zeros w64 word) % 2 ^ 64))) in
    let takes = lowest_taken words at word inside read some small before in
    let still_spare : (n : ℕ) → count ≤ n → digit_of less n ≡ false =
    λ n h. elim (cases_eq n lowest) [
      | inl same ↦ absurd (false≢true (sym (spare n h) ∙ ap (digit_of words) same ∙ takes.was))
      | inr other ↦ takes.others n other ∙ spare n h
    ] in
    record {
      spare = still_spare;
      lowest_is = record {
        was = mark_is count words spare lowest ∙ takes.was;
        lower = λ n h. mark_is count words spare n ∙ takes.lower n h;
        gone = mark_is count less still_spare lowest ∙ takes.gone;
        others = λ n ne. mark_is count less still_spare n ∙ takes.others n ne ∙ sym (mark_is count words spare n);
      };
    }

-- ---- for callers

-- what waits is below the count
pub pending_within : (queue : List Bool) (n : ℕ) → is_pending queue n ≡ true → n < length queue
pending_within queue n t = elim (cases_lt n (length queue)) [
  | inl below ↦ below
  | inr past ↦ absurd (false≢true (sym (get_or_past queue n false past) ∙ t))
]

-- what waits after the lowest was taken waited before, and is higher
pub lowest_left : (old new : List Bool) (low : ℕ) → IsLowest old new low → (n : ℕ) → is_pending new n ≡ true → (low < n) × (is_pending old n ≡ true)
lowest_left old new low is n t =
    let apart : n ≢ low = λ e. false≢true (sym is.gone ∙ ap (is_pending new) (sym e) ∙ t) in
    let was : is_pending old n ≡ true = sym (is.others n apart) ∙ t in (
      elim (cases_lt n low) [
        | inl under ↦ absurd (false≢true (sym (is.lower n under) ∙ was))
        | inr over ↦ omega arith
      ],
      was,
    )

-- what waits isn't below `from` if no number below `from` waits
pub not_before : (queue : List Bool) (from n : ℕ) → ((k : ℕ) → k < from → is_pending queue k ≡ false) → is_pending queue n ≡ true → from ≤ n
not_before queue from n low t = elim (cases_lt n from) [
  | inl under ↦ absurd (false≢true (sym (low n under) ∙ t))
  | inr over ↦ over
]
