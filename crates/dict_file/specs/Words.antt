-- Words of bits made from bytes.
use Rattle.std.specs.Prelude.{◌≡◌, ℕ, ◌<◌, List}
use Rattle.net_model.specs.Rows.{bit_of}
use Rattle.dict_file.specs.Packing.{file_bit}

-- The word has the 64 bits of the bytes starting at `from`, the first one as the lowest bit, and 0 past the end of the
-- bytes.
abbrev pub IsWordAt : List ℕ → ℕ → ℕ → Type 0
IsWordAt bytes from word = (at : ℕ) → at < 64 → bit_of word at ≡ file_bit bytes from at
