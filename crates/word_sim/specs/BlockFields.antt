-- What the fields of a `Block` show, and what is true of them.
use Rattle.std.specs.Prelude.{ℕ, ◌<◌, ◌≤◌, ◌^◌, Bool, List, length, map}
use Rattle.std.specs.List.{range_with_len}
use Rattle.net_model.specs.Answer.{bit_at}
use Rattle.word_sim.specs.declared.lanes.TheConstants.{LANES}
use Rattle.word_sim.specs.declared.block.Block.TheInside.{Inside}
use Rattle.word_sim.specs.Block.{Block, block_with}

-- the bits of one lane, row by row
unfoldable pub column : List (List Bool) → ℕ → List Bool
column rows lane = map (λ row. bit_at row lane) rows

-- the bits of each of the first `live` lanes, row by row
unfoldable pub columns : List (List Bool) → ℕ → List (List Bool)
columns rows live = map (column rows) (range_with_len 0 live)

abbrev pub block_of : Inside → Block
block_of a = block_with (length a.rows.items) (columns a.rows.items a.live)

pub record AreBlockFields (a : Inside) : Type 0 where
  pub few : a.live ≤ LANES
  pub short : length a.rows.items < 2 ^ 32
