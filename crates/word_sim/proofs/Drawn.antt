-- The words of the stream, in the order in which the generator gives them.
use Rattle.std.proofs.Common.{◌≡◌, ◌≢◌, ℕ, zero, suc, ◌+◌, ◌*◌, ◌/◌, ◌%◌, ◌<◌, ◌≤◌, List, [], length, get_or, refl, sym, ◌∙◌, ap, subst, arith, inl, inr}
use Rattle.std.specs.Prelude.{Bool, true, false, ◌&&◌, ◌==◌, nat_lt, slice_index, map, if◌then◌else◌}
use Rattle.std.specs.Int.{bit_at as digit_at}
use Rattle.std.specs.List.{range_with_len}
use Rattle.std.proofs.lemmas.Bool.{cases_eq, and_parts}
use Rattle.std.proofs.lemmas.Bool.Decides.{nat_tests}
use Rattle.std.proofs.lemmas.List.FromFn.{length-map-range_with_len, get_or-map-range_with_len}
use Rattle.rand_xoshiro.specs.SplitMix64.{next_state, mix_u64}
use Rattle.word_sim.specs.declared.stream.TheConstants.{COUNTING}
use Rattle.word_sim.specs.Stream.{state_after, stream_word, word_number, stream_bit, stream_vector}
use Rattle.word_sim.specs.StreamState.{StreamState, stream_with, stream_at, IsAfter}
use Rattle.net_model.specs.Answer.{bit_at}
use Rattle.net_model.specs.Rows.{bit_of}
use Rattle.word_sim.specs.declared.lanes.TheConstants.{LANES}
use Rattle.word_sim.specs.BlockFields.{column, columns}
use Rattle.word_sim.proofs.Columns.{column_is, columns_is}
use Rattle.word_sim.proofs.Written.{ArePut, AreBeside}

-- ---- the words of the sources that count

abbrev all_below : (ℕ → Bool) → ℕ → Bool
all_below test zero = true
all_below test (suc n) = test n && all_below test n

each_below : (test : ℕ → Bool) (n : ℕ) → all_below test n ≡ true → (k : ℕ) → k < n → test k ≡ true
each_below test zero e k h = absurd (omega arith)
each_below test (suc n) e k h =
    let both = and_parts (test n) (all_below test n) e in
    elim (cases_eq k n) [
      | inl same ↦ ap test same ∙ both.0
      | inr ne ↦ each_below test n both.1 k (omega arith)
    ]

same_digit : (m n : ℕ) → (m == n) ≡ true → m ≡ n
same_digit m n e = grind (arith, nat_tests)

counts_by : (word source : ℕ) → all_below (λ lane. digit_at word lane == digit_at lane source) 64 ≡ true → (lane : ℕ) → lane < 64 → bit_of word lane ≡ bit_of lane source
counts_by word source e lane h =
    ap (λ d. d == 1) (same_digit (digit_at word lane) (digit_at lane source) (each_below (λ t. digit_at word t == digit_at t source) 64 e lane h))

counting_digit : (source lane : ℕ) → source < 6 → lane < 64 → bit_of (slice_index COUNTING source) lane ≡ bit_of lane source
counting_digit zero lane h k = counts_by 0xaaaaaaaaaaaaaaaa 0 refl lane k
counting_digit (suc zero) lane h k = counts_by 0xcccccccccccccccc 1 refl lane k
counting_digit (suc (suc zero)) lane h k = counts_by 0xf0f0f0f0f0f0f0f0 2 refl lane k
counting_digit (suc (suc (suc zero))) lane h k = counts_by 0xff00ff00ff00ff00 3 refl lane k
counting_digit (suc (suc (suc (suc zero)))) lane h k = counts_by 0xffff0000ffff0000 4 refl lane k
counting_digit (suc (suc (suc (suc (suc zero))))) lane h k = counts_by 0xffffffff00000000 5 refl lane k
counting_digit (suc (suc (suc (suc (suc (suc source)))))) lane h k = absurd (omega arith)

-- ---- one word

count_test : (done source : ℕ) → (done == 0 && nat_lt source 6) ≡ true → source < 6
count_test done source e = let both = and_parts (done == 0) (nat_lt source 6) e in grind (arith, nat_tests)

word_digit_by : (b : Bool) (sources done source lane rng : ℕ) → (done == 0 && nat_lt source 6) ≡ b → rng ≡ state_after (word_number sources done source) → lane < 64
    → bit_of (if b then slice_index COUNTING source else (mix_u64 rng).0) lane ≡ (if b then bit_of lane source else bit_of (stream_word (word_number sources done source)) lane)
unfolding stream_word
word_digit_by true sources done source lane rng e is h = counting_digit source lane (count_test done source e) h
word_digit_by false sources done source lane rng e is h = ap (λ state. bit_of (mix_u64 state).0 lane) is

-- the word of a source has the stream's bits
pub word_digit : (sources done source lane rng : ℕ) → rng ≡ state_after (word_number sources done source) → lane < 64
    → bit_of (if done == 0 && nat_lt source 6 then slice_index COUNTING source else (mix_u64 rng).0) lane ≡ stream_bit sources done lane source
unfolding stream_bit
word_digit sources done source lane rng is h = word_digit_by (done == 0 && nat_lt source 6) sources done source lane rng refl is h

none_taken : (sources done source : ℕ) → source < sources → (done == 0 && nat_lt source 6) ≡ true → word_number sources done source ≡ word_number sources done (source + 1)
none_taken sources zero source h e = let few : source < 6 = count_test 0 source e in omega arith
none_taken sources (suc done) source h e = absurd (let both = and_parts (suc done == 0) (nat_lt source 6) e in omega (arith, same_digit (suc done) 0 both.0))

one_taken : (sources done source : ℕ) → source < sources → (done == 0 && nat_lt source 6) ≡ false → suc (word_number sources done source) ≡ word_number sources done (source + 1)
one_taken sources zero source h e = let many : 6 ≤ source = grind (arith, nat_tests) in omega arith
one_taken sources (suc done) source h e = omega arith

next_rng_by : (b : Bool) (sources done source rng : ℕ) → (done == 0 && nat_lt source 6) ≡ b → source < sources → rng ≡ state_after (word_number sources done source)
    → (if b then rng else (mix_u64 rng).1) ≡ state_after (word_number sources done (source + 1))
next_rng_by true sources done source rng e h is = is ∙ ap state_after (none_taken sources done source h e)
next_rng_by false sources done source rng e h is = ap next_state is ∙ ap state_after (one_taken sources done source h e)

-- after it the generator is at the next word
pub next_rng : (sources done source rng : ℕ) → source < sources → rng ≡ state_after (word_number sources done source)
    → (if done == 0 && nat_lt source 6 then rng else (mix_u64 rng).1) ≡ state_after (word_number sources done (source + 1))
next_rng sources done source rng h is = next_rng_by (done == 0 && nat_lt source 6) sources done source rng refl h is

-- ---- the state of a stream

pub is_after : (own sources done : ℕ) (first : Bool) (rng : ℕ) → stream_with own first rng ≡ stream_at sources done → IsAfter sources done first rng
is_after own sources done first rng at = record {
  comes_first = ap (λ (s : StreamState). s.first) at;
  state = ap (λ (s : StreamState). s.rng) at;
}

-- the next block follows the last word of a block
pub next_block : (sources done : ℕ) → word_number sources done sources ≡ word_number sources (done + 1) 0
next_block sources done = omega arith

-- the blocks after the first don't count
none_done : (done count : ℕ) → (done == 0 && count == 0) ≡ (done + count == 0)
none_done done count = grind (arith, nat_tests)

-- the state `count` blocks later
pub is_on : (sources done count : ℕ) (first : Bool) (start rng : ℕ) → IsAfter sources done first start → rng ≡ state_after (word_number sources (done + count) 0)
    → IsAfter sources (done + count) (first && count == 0) rng
is_on sources done count first start rng after is = record {
  comes_first = ap (λ b. b && count == 0) after.comes_first ∙ none_done done count;
  state = is;
}

-- ---- one block

-- The first `n` rows have their words of a block of the stream in the lanes of word `at`.
abbrev pub AreDrawn : ℕ → ℕ → ℕ → List (List Bool) → ℕ → Type 0
AreDrawn sources done at rows n = ArePut (λ lane. lane / 64) at (λ k lane. stream_bit sources done (lane % 64) k) rows n

-- The first `n` rows have their words, and the generator is at the next word.
pub record IsDrawnTo (sources done at : ℕ) (rows : List (List Bool)) (rng n : ℕ) : Type 0 where
  pub state : rng ≡ state_after (word_number sources done n)
  pub drawn : AreDrawn sources done at rows n

-- This holds for each block that can come next, and the lanes of the other words are as before.
pub record IsDrawing (sources at : ℕ) (first : Bool) (start : ℕ) (old rows : List (List Bool)) (rng n : ℕ) : Type 0 where
  pub next : (done : ℕ) → IsAfter sources done first start → IsDrawnTo sources done at rows rng n
  pub others : AreBeside (λ lane. lane / 64) at old rows

-- a lane of drawn rows is a vector of the stream
pub drawn_column : (sources done at : ℕ) (rows : List (List Bool)) (lane : ℕ) → ((k : ℕ) → k < sources → bit_at (get_or rows k []) lane ≡ stream_bit sources done at k) → length rows ≡ sources → at < 64
    → column rows lane ≡ stream_vector sources (64 * done + at)
drawn_column sources done at rows lane drawn wide h =
    let n = 64 * done + at in
    let block : n / 64 ≡ done = omega arith in
    let place : n % 64 ≡ at = omega arith in
    column_is rows lane (stream_vector sources n) (length-map-range_with_len (stream_bit sources (n / 64) (n % 64)) 0 sources ∙ sym wide)
    (λ k l.
    let within : k < sources = subst (λ m. k < m) wide l in
    drawn k within ∙ sym (get_or-map-range_with_len (stream_bit sources (n / 64) (n % 64)) 0 sources k k false within (omega arith) ∙ (λ i. stream_bit sources (block i) (place i) k)))

-- ---- blocks one after another

-- The first lanes have `count` blocks, and the generator is at the next block.
pub record AreDrawnTo (sources done count : ℕ) (rows : List (List Bool)) (rng : ℕ) : Type 0 where
  pub state : rng ≡ state_after (word_number sources (done + count) 0)
  pub drawn : (lane : ℕ) → lane < 64 * count → column rows lane ≡ stream_vector sources (64 * done + lane)

pub drawn_none : (sources done : ℕ) (first : Bool) (rows : List (List Bool)) (rng : ℕ) → IsAfter sources done first rng → AreDrawnTo sources done 0 rows rng
drawn_none sources done first rows rng after =
    let here : done ≡ done + 0 = omega arith in
    record {
      state = after.state ∙ ap (λ n. state_after (word_number sources n 0)) here;
      drawn = λ lane h. absurd (omega arith);
    }

pub drawn_more : (sources done count : ℕ) (old new : List (List Bool)) (start rng : ℕ) → AreDrawnTo sources done count old start → count < LANES / 64
    → rng ≡ state_after (word_number sources (done + count + 1) 0)
    → ((lane : ℕ) → lane < LANES → lane / 64 ≡ count → column new lane ≡ stream_vector sources (64 * (done + count) + lane % 64))
    → ((lane : ℕ) → lane < LANES → lane / 64 ≢ count → column new lane ≡ column old lane) → AreDrawnTo sources done (count + 1) new rng
drawn_more sources done count old new start rng before room is here others =
    let on : done + count + 1 ≡ done + (count + 1) = omega arith in
    record {
      state = is ∙ ap (λ n. state_after (word_number sources n 0)) on;
      drawn = λ lane h. elim (cases_eq (lane / 64) count) [
        | inl last ↦ let same : 64 * (done + count) + lane % 64 ≡ 64 * done + lane = omega arith in here lane (omega arith) last ∙ ap (stream_vector sources) same
        | inr ne ↦ others lane (omega arith) ne ∙ before.drawn lane (omega arith)
      ];
    }

-- the lanes of drawn rows are blocks of the stream
pub drawn_blocks : (sources done count : ℕ) (rows : List (List Bool)) → ((lane : ℕ) → lane < 64 * count → column rows lane ≡ stream_vector sources (64 * done + lane))
    → columns rows (64 * count) ≡ map (stream_vector sources) (range_with_len (64 * done) (64 * count))
drawn_blocks sources done count rows h =
    columns_is rows (64 * count) (map (stream_vector sources) (range_with_len (64 * done) (64 * count))) (length-map-range_with_len (stream_vector sources) (64 * done) (64 * count))
    (λ lane l. h lane l ∙ sym (get_or-map-range_with_len (stream_vector sources) (64 * done) (64 * count) lane (64 * done + lane) [] l refl))
