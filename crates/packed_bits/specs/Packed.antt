-- Bits that are packed into words of 64.
use Rattle.std.specs.Prelude.{◌≡◌, ℕ, ◌/◌, ◌<◌, Bool, List, map, length}
use Rattle.std.specs.List.{range_with_len}
use Rattle.net_model.specs.Answer.{bit_at}
use Rattle.net_model.specs.Rows.{word_bit}

-- the first `count` bits of words, the lowest of each word first
abbrev pub packed_bits : ℕ → List ℕ → List Bool
packed_bits count words = map (word_bit words 0) (range_with_len 0 count)
