-- Bits as digits.
use Rattle.std.specs.Prelude.{ℕ, Bool, List, map, ◌==◌}
use Rattle.net_model.specs.Ascii.{digit_one}

-- The bits of a text: 1 for each digit 1, and 0 for each other byte.
abbrev pub bits_of : List ℕ → List Bool
bits_of text = map (λ digit. digit == digit_one) text
