-- The bits of all lines in one lane if some are turned, as changes of the fault-free ones.
use Rattle.std.specs.Prelude.{◌≡◌, ℕ, Bool, List, [], None, map, length, slice_index_or}
use Rattle.std.specs.List.{range_with_len}
use Rattle.net_model.specs.declared.fault.Fault.TheVariants.{Free}
use Rattle.net_model.specs.Gate.{inverted}
use Rattle.net_model.specs.Answer.{bit_at, seen_bits, driven_bit}
use Rattle.word_sim.specs.GoodSim.{GoodSim}
use Rattle.fault_heads.specs.Turned.{vector_at, IsFreeLane}

-- the fault-free bits of all lines, each turned if the row of its line has the lane
unfoldable pub turned_bits : List Bool → List (List Bool) → ℕ → List Bool
turned_bits free rows lane = map (λ line. inverted (bit_at free line) (bit_at (slice_index_or rows line []) lane)) (range_with_len 0 (length rows))

-- what pins see if none is stuck
abbrev pub read_bits : List Bool → List ℕ → List Bool
read_bits bits pins = seen_bits (λ pin. None) bits pins

-- In each lane with a vector the line has the bit that its gate gives it, or that the vector gives it if it is a
-- source.
abbrev pub IsSettled : GoodSim → List (List Bool) → ℕ → Type 0
IsSettled good rows line = (lane : ℕ) (free : List Bool) → IsFreeLane good lane free
    → bit_at (turned_bits free rows lane) line ≡ driven_bit good.circuit Free (vector_at good lane) (turned_bits free rows lane) line
