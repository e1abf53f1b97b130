-- Words of tests, counted.
use Rattle.std.proofs.Common.{◌≡◌, ◌∙◌, ℕ, ◌+◌, ◌*◌, ◌<◌, ◌≤◌, ◌^◌, Bool, true, false, cond, List, [], length, get_or, take, sym, ap, ap₂, arith}
use Rattle.std.specs.Prelude.{sum_by, count_by, count_ones, nat_lt, ◌||◌, All, AllPairs, Contains}
use Rattle.std.specs.List.{range_with_len}
use Rattle.std.proofs.lemmas.Bool.Decides.{nat_tests}
use Rattle.std.proofs.lemmas.List.{length-take-le}
use Rattle.std.proofs.lemmas.List.Sums.{sum_by_more, sum_by-le}
use Rattle.net_model.specs.Rows.{bit_of}
use Rattle.net_model.proofs.SingleWords.{digit_zero}
use Rattle.ranked_diag.proofs.CountLemmas.{ones-counted}
use Rattle.suspect_scores.specs.declared.bit_count.BitCount.{BitCount}
use Rattle.suspect_scores.specs.Scored.{count_to}
use Rattle.suspect_scores.specs.Columns.{count_lanes, IsBitCount}
use Rattle.suspect_scores.proofs.RangeSums.{one_of, count_small, sum_shifted, count_shifted}
use Rattle.net_model.proofs.DoubleSums.{sum_swapped}
use Rattle.suspect_scores.proofs.DoubleSums.{sum_none, sum_short, sum_ascending, place_low}

-- ---- 64 lanes

pub one_word : (word : ℕ) (test : ℕ → Bool) → word < 2 ^ 64 → ((k : ℕ) → k < 64 → bit_of word k ≡ test k) → count_ones word ≡ count_lanes test
unfolding count_lanes
one_word word test fits same = ones-counted 64 word fits ∙ count_shifted (bit_of word) test 0 0 64 (λ k h. let start : 0 + k ≡ k = omega arith in ap (bit_of word) start ∙ (same k h ∙ ap test (sym start)))

lanes_small : (test : ℕ → Bool) → count_lanes test ≤ 64
unfolding count_lanes
lanes_small test = count_small test 64

no_lanes : (test : ℕ → Bool) → ((k : ℕ) → k < 64 → test k ≡ false) → count_lanes test ≡ 0
unfolding count_lanes
no_lanes test none = sum_none (one_of test) 0 64 (λ k h. let start : 0 + k ≡ k = omega arith in ap (λ (b : Bool). cond {A = ℕ} b 1 0) (ap test start ∙ none k h))

-- ---- word by word

pub counted_none : (test : ℕ → ℕ → Bool) (t : BitCount) → t.bits ≡ 0 → t.some ≡ 0 → IsBitCount test [] t
counted_none test t bits some = record { bits = bits; some = λ k h. ap (λ (w : ℕ). bit_of w k) some ∙ digit_zero k }

or_more : (n : ℕ) (b : Bool) → (nat_lt 0 n || b) ≡ nat_lt 0 (n + cond b 1 0)
or_more n true = grind (arith, nat_tests)
or_more n false = grind (arith, nat_tests)

pub counted_more : (test : ℕ → ℕ → Bool) (listed : List ℕ) (i word : ℕ) (old new : BitCount) → i < length listed → IsBitCount test (take i listed) old → new.bits ≡ old.bits + count_ones word
    → ((k : ℕ) → k < 64 → bit_of new.some k ≡ (bit_of old.some k || bit_of word k)) → word < 2 ^ 64 → ((k : ℕ) → k < 64 → bit_of word k ≡ test (get_or listed i 0) k) → IsBitCount test (take (i + 1) listed) new
counted_more test listed i word old new h so_far bits some fits is =
    let x = get_or listed i 0 in
    record {
      bits = omega (arith, bits, so_far.bits, one_word word (test x) fits is, sum_by_more (λ p. count_lanes (test p)) listed i 0 h);
      some = λ k l.
          let n = count_by (λ p. test p k) (take i listed) in
          some k l ∙ (ap₂ (λ (a b : Bool). a || b) (so_far.some k l) (is k l) ∙ (or_more n (test x k) ∙ sym (ap (nat_lt 0) (sum_by_more (λ p. cond {A = ℕ} (test p k) 1 0) listed i 0 h))));
    }

-- the bits of the words fit
pub counted_fits : (test : ℕ → ℕ → Bool) (listed : List ℕ) (i : ℕ) (t : BitCount) → IsBitCount test (take i listed) t → AllPairs ◌<◌ listed → i < length listed → get_or listed i 0 < 2 ^ 32 → t.bits + 64 < 2 ^ 64
counted_fits test listed i t is up h low =
    let most : sum_by (λ p. count_lanes (test p)) (take i listed) ≤ length (take i listed) * 64 = sum_by-le (λ p. count_lanes (test p)) 64 (take i listed) (λ k d l. lanes_small (test (get_or (take i listed) k d))) in
    omega (arith, is.bits, most, length-take-le i listed (omega (arith, h)), place_low listed up i h, low)

-- ---- all positions

-- tests that hold at no position that isn't listed
pub counted_all : (test : ℕ → ℕ → Bool) (listed : List ℕ) (n : ℕ) (t : BitCount) → IsBitCount test listed t → All (λ p. p < n) listed → AllPairs ◌<◌ listed
    → ((p k : ℕ) → p < n → (Contains listed p → ⊥) → k < 64 → test p k ≡ false) → IsBitCount test (range_with_len 0 n) t
counted_all test listed n t is within up off =
    let all : (f : ℕ → ℕ) → ((p : ℕ) → p < n → (Contains listed p → ⊥) → f p ≡ 0) → sum_by f listed ≡ sum_by f (range_with_len 0 n) =
    λ f none. sum_ascending f listed 0 n (λ k d h. omega arith) (λ k d h. omega (arith, within k d h)) up (λ x lo hi away. none x (omega (arith, hi)) away) in
    record {
      bits = is.bits ∙ all (λ p. count_lanes (test p)) (λ p h away. no_lanes (test p) (λ k l. off p k h away l));
      some = λ k l. is.some k l ∙ ap (nat_lt 0) (all (λ p. cond {A = ℕ} (test p k) 1 0) (λ p h away. ap (λ (b : Bool). cond {A = ℕ} b 1 0) (off p k h away l)));
    }

-- the bits of a bit_count are those of its lanes, position by position
pub counted_sum : (test : ℕ → ℕ → Bool) (n lane lanes : ℕ) (t : BitCount) (value : ℕ → ℕ) → IsBitCount test (range_with_len 0 n) t → lanes ≤ 64 → ((k : ℕ) → k < lanes → count_to (λ p. test p k) n ≡ value (lane + k))
    → ((k : ℕ) → lanes ≤ k → k < 64 → count_to (λ p. test p k) n ≡ 0) → t.bits ≡ sum_by value (range_with_len lane lanes)
unfolding count_lanes
counted_sum test n lane lanes t value is few own none =
    is.bits
    ∙ (sum_swapped (λ p k. cond {A = ℕ} (test p k) 1 0) (range_with_len 0 n) (range_with_len 0 64)
    ∙ (sum_short (λ k. count_to (λ p. test p k) n) lanes 64 few none
    ∙ sum_shifted (λ k. count_to (λ p. test p k) n) value 0 lane lanes (λ k h. let start : 0 + k ≡ k = omega arith in ap (λ (j : ℕ). count_to (λ p. test p j) n) start ∙ own k h)))
