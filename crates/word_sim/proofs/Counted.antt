-- The vectors of the first block count, and blocks follow one another.
use Rattle.std.proofs.Common.{◌≡◌, ℕ, suc, ◌+◌, ◌*◌, ◌/◌, ◌%◌, ◌^◌, ◌<◌, ◌≤◌, List, [], ◌∷◌, ◌++◌, length, map, refl, sym, ◌∙◌, ap, subst, arith, pow_mono}
use Rattle.std.specs.Prelude.{Bool, true, false, Contains, ◌==◌, nat_lt, if◌then◌else◌}
use Rattle.std.specs.List.{range_with_len}
use Rattle.std.proofs.lemmas.Bool.Decides.{nat_tests}
use Rattle.std.proofs.lemmas.List.{ext_get_or, map-append}
use Rattle.std.proofs.lemmas.List.FromFn.{length-map-range_with_len, get_or-map-range_with_len}
use Rattle.net_model.specs.Answer.{bit_at}
use Rattle.net_model.proofs.Ranges.{range-append}
use Rattle.net_model.specs.Rows.{bit_of}
use Rattle.word_sim.specs.Stream.{stream_word, word_number, stream_bit, stream_vector, stream}
use Rattle.word_sim.specs.Lanes.{low_digits, word_of}
use Rattle.word_sim.proofs.Digits.{low_digit}

bit_digit : (bit : Bool) (n : ℕ) → (((if bit then 1 else 0) + 2 * n) % 2 == 1) ≡ bit
bit_digit true n = grind (arith, nat_tests)
bit_digit false n = grind (arith, nat_tests)

bit_half : (bit : Bool) (n : ℕ) → ((if bit then 1 else 0) + 2 * n) / 2 ≡ n
bit_half true n = omega arith
bit_half false n = omega arith

bit_below : (bit : Bool) (n k : ℕ) → n < 2 ^ k → (if bit then 1 else 0) + 2 * n < 2 ^ (suc k)
bit_below true n k h = omega arith
bit_below false n k h = omega arith

word_of-below : (bits : List Bool) → word_of bits < 2 ^ length bits
unfolding word_of
word_of-below [] = omega arith
word_of-below (bit ∷ bits) = bit_below bit (word_of bits) (length bits) (word_of-below bits)

low_digits-word_of : (bits : List Bool) → low_digits (length bits) (word_of bits) ≡ bits
unfolding word_of
low_digits-word_of [] = refl
low_digits-word_of (bit ∷ bits) = λ i. bit_digit bit (word_of bits) i ∷ (ap (low_digits (length bits)) (bit_half bit (word_of bits)) ∙ low_digits-word_of bits) i

-- a source's bit in the first block is a digit of the vector's place
counted_by : (b : Bool) (lane source word : ℕ) → b ≡ true → (if b then bit_of lane source else bit_of (stream_word word) lane) ≡ bit_of lane source
counted_by true lane source word e = refl
counted_by false lane source word e = cc

counted_bit : (sources lane source : ℕ) → source < 6 → stream_bit sources 0 lane source ≡ bit_of lane source
unfolding stream_bit
counted_bit sources lane source h =
    let test : nat_lt source 6 ≡ true = grind (arith, nat_tests) in
    counted_by (nat_lt source 6) lane source (word_number sources 0 source) test

pub counted_vector : (sources : ℕ) (v : List Bool) → sources ≤ 6 → length v ≡ sources → word_of v < 64 → stream_vector sources (word_of v) ≡ v
counted_vector sources v few width small =
    let n = word_of v in
    let block : n / 64 ≡ 0 = omega arith in
    let at : n % 64 ≡ n = omega arith in
    ext_get_or false (stream_vector sources n) v (length-map-range_with_len (stream_bit sources (n / 64) (n % 64)) 0 sources ∙ sym width)
    (λ k l.
    let within : k < sources = subst (λ m. k < m) (length-map-range_with_len (stream_bit sources (n / 64) (n % 64)) 0 sources) l in
    get_or-map-range_with_len (stream_bit sources (n / 64) (n % 64)) 0 sources k k false within (omega arith)
    ∙ (λ i. stream_bit sources (block i) (at i) k)
    ∙ counted_bit sources n k (omega arith)
    ∙ sym (low_digit (length v) n k (omega arith))
    ∙ ap (λ bits. bit_at bits k) (low_digits-word_of v))

power_few : (n : ℕ) → n ≤ 6 → 2 ^ n ≤ 64
power_few n h = pow_mono {i = n} {j = 6} h

pub counted_in : (sources : ℕ) (v : List Bool) → sources ≤ 6 → length v ≡ sources → Contains (stream sources 1) v
counted_in sources v few width =
    let n = word_of v in
    let small : n < 64 = omega (arith, word_of-below v, power_few (length v) (omega arith)) in (
      n,
      omega (arith, small, length-map-range_with_len (stream_vector sources) 0 (64 * 1)),
      get_or-map-range_with_len (stream_vector sources) 0 (64 * 1) n n v (omega arith) (omega arith) ∙ counted_vector sources v few width small,
    )

pub stream-append : (sources done count : ℕ) → stream sources (done + count) ≡ stream sources done ++ map (stream_vector sources) (range_with_len (64 * done) (64 * count))
stream-append sources done count =
    let more : 64 * (done + count) ≡ 64 * done + 64 * count = omega arith in
    let on : 0 + 64 * done ≡ 64 * done = omega arith in
    ap (λ n. map (stream_vector sources) (range_with_len 0 n)) more
    ∙ ap (map (stream_vector sources)) (range-append 0 (64 * done) (64 * count) ∙ ap (λ n. range_with_len 0 (64 * done) ++ range_with_len n (64 * count)) on)
    ∙ map-append (stream_vector sources) (range_with_len 0 (64 * done)) (range_with_len (64 * done) (64 * count))
