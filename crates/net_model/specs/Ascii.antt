-- The bytes that several texts have.
use Rattle.std.specs.Prelude.{ℕ}

-- the byte that ends a line
abbrev pub line_feed : ℕ
line_feed = 10

-- the byte between two fields of a line
abbrev pub space : ℕ
space = 32

-- the byte of the digit `0`
abbrev pub digit_zero : ℕ
digit_zero = 48

-- the byte of the digit `1`
abbrev pub digit_one : ℕ
digit_one = 49
