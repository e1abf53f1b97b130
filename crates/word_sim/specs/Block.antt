-- Blocks: the vectors that are simulated at once.
use Rattle.std.specs.Prelude.{◌≡◌, ℕ, ◌≤◌, Bool, List, length, All}
use Rattle.word_sim.specs.declared.lanes.TheConstants.{LANES}

-- the number of sources, and the vectors, each in the lane of its place in the list
pub record Block : Type 0 where
  pub sources : ℕ
  pub vectors : List (List Bool)

abbrev pub block_with : ℕ → List (List Bool) → Block
block_with sources vectors = record { sources = sources; vectors = vectors }

-- What is true of every block: it has no more vectors than lanes, and each has a bit for each source.
pub record IsBlock (b : Block) : Type 0 where
  pub few : length b.vectors ≤ LANES
  pub widths : All (λ v. length v ≡ b.sources) b.vectors
