-- Bits by lane, as binary digits of words.
use Rattle.std.specs.Prelude.{ℕ, zero, suc, ◌+◌, ◌*◌, ◌/◌, ◌%◌, Bool, List, [], ◌∷◌, ◌++◌, take, drop, ◌==◌, if◌then◌else◌}

-- the given number of binary digits of `word`, the lowest first
abbrev pub low_digits : ℕ → ℕ → List Bool
low_digits zero word = []
low_digits (suc n) word = (word % 2 == 1) ∷ low_digits n (word / 2)

-- the number with these binary digits, the lowest first
unfoldable pub word_of : List Bool → ℕ
word_of [] = 0
word_of (bit ∷ bits) = (if bit then 1 else 0) + 2 * word_of bits

-- the bits of the lanes that words hold, 64 in each word, its lowest digit first
unfoldable pub lanes_of : List ℕ → List Bool
lanes_of [] = []
lanes_of (word ∷ words) = low_digits 64 word ++ lanes_of words

-- the given number of words, which have the first 64 bits, the next 64 and so on as their binary digits
abbrev pub numbers_of : ℕ → List Bool → List ℕ
numbers_of zero bits = []
numbers_of (suc n) bits = word_of (take 64 bits) ∷ numbers_of n (drop 64 bits)

-- the four words that hold these bits
abbrev pub words_of : List Bool → List ℕ
words_of bits = numbers_of 4 bits
