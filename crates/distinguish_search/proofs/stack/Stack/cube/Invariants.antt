use Rattle.std.proofs.Common.{◌≡◌, ℕ, length, take, get_or}
use Rattle.std.specs.Prelude.{None, reverse}
use Rattle.pair_sets.specs.Cube.{fixed_bit}
use Rattle.distinguish_search.specs.Frames.{tried_cube}
use Rattle.distinguish_search.proofs.stack.Stack.cube.Given as goal

abbrev pub invariant-loop-frame : goal.invariant-loop-frame
invariant-loop-frame l = (length l.cube.items ≡ l.sources) × ((source : ℕ) → get_or l.cube.items source None ≡ fixed_bit (tried_cube (reverse (take l.frame-index l.frame-items))) source)
