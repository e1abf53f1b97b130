use Rattle.std.proofs.Common.{◌≡◌}
use Rattle.dia_gen.proofs.block.add_cube.Given as goal

abbrev pub invariant-loop-at : goal.invariant-loop-at
invariant-loop-at l = l.cubes.items ≡ l.initial.cubes.items
