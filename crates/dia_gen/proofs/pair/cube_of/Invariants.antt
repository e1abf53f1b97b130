use Rattle.std.proofs.Common.{◌≡◌, length, take}
use Rattle.dia_gen.proofs.CubeLemmas.{HasLineBits}
use Rattle.dia_gen.proofs.pair.cube_of.Given as goal

abbrev pub invariant-loop-line : goal.invariant-loop-line
invariant-loop-line l = record {
  width : length l.cube.items ≡ length l.v;
  fixed : HasLineBits l.v (take l.line-index l.relevant) l.cube.items;
}
