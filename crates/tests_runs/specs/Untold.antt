-- Shelves that don't tell what they hold.
use Rattle.std.specs.Prelude.{false}
use Rattle.diag_shelf.specs.World.{State}

-- The state with the same counts of a shelf that doesn't tell its world and isn't sure.
abbrev pub untold : State → State
untold state = record state { tells = false; sure = false }
