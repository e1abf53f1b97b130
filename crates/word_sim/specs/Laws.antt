-- Laws of the stream.
use Rattle.std.specs.Prelude.{◌≡◌, ℕ, ◌+◌, ◌*◌, ◌≤◌, Bool, List, ◌++◌, length, map, Contains}
use Rattle.std.specs.List.{range_with_len}
use Rattle.word_sim.specs.Stream.{stream, stream_vector}

-- With at most six sources the first block has every vector.
abbrev pub FirstBlockHasAll : Type 0
FirstBlockHasAll = (sources : ℕ) (v : List Bool) → sources ≤ 6 → length v ≡ sources → Contains (stream sources 1) v

-- The vectors of the first `done + count` blocks are those of the first `done` blocks and then those of the next
-- `count`.
abbrev pub StreamContinues : Type 0
StreamContinues = (sources done count : ℕ) → stream sources (done + count) ≡ stream sources done ++ map (stream_vector sources) (range_with_len (64 * done) (64 * count))
