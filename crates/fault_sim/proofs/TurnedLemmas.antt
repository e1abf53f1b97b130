-- The bits of lines if some are turned, and what readers see of them.
use Rattle.std.proofs.Common.{◌≡◌, ℕ, ◌<◌, List, [], length, get_or, refl, arith}
use Rattle.std.specs.Prelude.{Bool, true, false, ◌&&◌}
use Rattle.std.proofs.lemmas.List.FromFn.{length-map-range_with_len, get_or-map-range_with_len}
use Rattle.net_model.specs.Answer.{bit_at}
use Rattle.net_model.specs.Gate.{inverted}
use Rattle.fault_sim.specs.TurnedLines.{turned_bits}

pub length-turned : (free : List Bool) (rows : List (List Bool)) (lane : ℕ) → length (turned_bits free rows lane) ≡ length rows
unfolding turned_bits
length-turned free rows lane = length-map-range_with_len (λ line. inverted (bit_at free line) (bit_at (get_or rows line []) lane)) 0 (length rows)

pub turned_at : (free : List Bool) (rows : List (List Bool)) (lane line : ℕ) → line < length rows → bit_at (turned_bits free rows lane) line ≡ inverted (bit_at free line) (bit_at (get_or rows line []) lane)
unfolding turned_bits
turned_at free rows lane line h = get_or-map-range_with_len (λ line. inverted (bit_at free line) (bit_at (get_or rows line []) lane)) 0 (length rows) line line false h (omega arith)

-- a bit that is inverted if it differs from another is the other
pub inverted_to : (bit value : Bool) → inverted bit (inverted value bit && true) ≡ value
inverted_to true true = refl
inverted_to true false = refl
inverted_to false true = refl
inverted_to false false = refl
