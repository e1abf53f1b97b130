-- Cubes of vectors: for each source a bit, or none if the source is free.
use Rattle.std.specs.Prelude.{◌≡◌, ℕ, Bool, List, length, slice_index_or, Option, Some, None}
use Rattle.net_model.specs.Answer.{bit_at}

-- The vector has a bit for each source, and the cube's bit at each source that isn't free.
pub record IsOfCube (cube : List (Option Bool)) (v : List Bool) : Type 0 where
  pub width : length v ≡ length cube
  pub fixed : (source : ℕ) (bit : Bool) → slice_index_or cube source None ≡ Some bit → bit_at v source ≡ bit
