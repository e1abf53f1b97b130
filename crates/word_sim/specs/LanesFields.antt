-- What the field of `Lanes` shows, and that it shows all of it.
use Rattle.std.specs.Prelude.{◌≡◌, ℕ, zero, suc, ◌/◌, ◌%◌, ◌^◌, ◌<◌, Bool, List, [], ◌∷◌, ◌++◌, length, take, drop, get_or, ◌==◌, if◌then◌else◌}
use Rattle.std.proofs.Common.{refl, ◌∙◌, ap, arith}
use Rattle.std.proofs.lemmas.List.{take_at, drop_at}
use Rattle.std.proofs.lemmas.Bool.Decides.{nat_tests}
use Rattle.word_sim.specs.Lanes.{low_digits, word_of, lanes_of, numbers_of, words_of}
use Rattle.word_sim.specs.declared.lanes.Lanes.TheInside.{Inside}

digit_value : (word : ℕ) → (if word % 2 == 1 then 1 else 0) ≡ word % 2
digit_value word = grind (arith, nat_tests)

word_of-low_digits : (n word : ℕ) → word < 2 ^ n → word_of (low_digits n word) ≡ word
unfolding word_of
word_of-low_digits zero word h = omega arith
word_of-low_digits (suc n) word h =
    let half : word / 2 < 2 ^ n = omega arith in
    let rest : word_of (low_digits n (word / 2)) ≡ word / 2 = word_of-low_digits n (word / 2) half in
    omega (arith, rest, digit_value word)

-- There are four words, each of at most 64 binary digits.
pub record AreFourWords (words : List ℕ) : Type 0 where
  pub four : length words ≡ 4
  pub small : (at : ℕ) → at < length words → get_or words at 0 < 2 ^ 64

abbrev pub lane_bits : Inside → List Bool
lane_bits a = lanes_of a.words

pub length-low_digits : (n word : ℕ) → length (low_digits n word) ≡ n
length-low_digits zero word = refl
length-low_digits (suc n) word = ap suc (length-low_digits n (word / 2))

numbers_of-lanes_of : (n : ℕ) (words : List ℕ) → length words ≡ n → ((at : ℕ) → at < length words → get_or words at 0 < 2 ^ 64) → numbers_of n (lanes_of words) ≡ words
unfolding lanes_of
numbers_of-lanes_of zero [] e small = refl
numbers_of-lanes_of zero (word ∷ words) e small = absurd (omega arith)
numbers_of-lanes_of (suc n) [] e small = absurd (omega arith)
numbers_of-lanes_of (suc n) (word ∷ words) e small =
    let digits = low_digits 64 word in
    let long : length digits ≡ 64 = length-low_digits 64 word in
    let first : take 64 (digits ++ lanes_of words) ≡ digits = take_at digits (lanes_of words) 64 long in
    let rest : drop 64 (digits ++ lanes_of words) ≡ lanes_of words = drop_at digits (lanes_of words) 64 long in
    let more : numbers_of n (lanes_of words) ≡ words = numbers_of-lanes_of n words (omega arith) (λ at h. small (suc at) (omega arith)) in
    λ i. (ap word_of first ∙ word_of-low_digits 64 word (small 0 (omega arith))) i ∷ (ap (numbers_of n) rest ∙ more) i

pub words_of-bits_of : (a : Inside) → AreFourWords a.words → words_of (lane_bits a) ≡ a.words
words_of-bits_of a h = numbers_of-lanes_of 4 a.words h.four h.small
