-- How far a file is read.
use Rattle.std.specs.Prelude.{◌≡◌, ◌+◌, ℕ, List, [], drop, unwrap_or, Some}
use Rattle.diag_shelf.specs.World.{World}
use Rattle.result_records.specs.declared.limits.TheConstants.{RESULT_LIMIT}

-- The bytes that are left of the opened file.
abbrev pub rest_of : World → List ℕ
rest_of world = unwrap_or world.rest []

-- The rest of the opened file was read to its end, or to one byte beyond the limit.
pub record ReadsRest (old new : World) : Type 0 where
  pub rest : new.rest ≡ Some (drop (RESULT_LIMIT + 1) (rest_of old))
