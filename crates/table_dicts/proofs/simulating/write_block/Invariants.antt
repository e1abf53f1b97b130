use Rattle.std.proofs.Common.{◌≡◌, length}
use Rattle.table_dicts.specs.Blocks.{HasRunPatterns, IsListedBit, AreNumbersSet}
use Rattle.table_dicts.proofs.simulating.write_block.Given as goal

abbrev pub invariant-loop-place : goal.invariant-loop-place
invariant-loop-place l = record {
  pattern_sim : l.pattern_sim ≡ record l.initial.pattern_sim { sim = l.pattern_sim.sim };
  run : HasRunPatterns l.pattern_sim;
  set : AreNumbersSet (IsListedBit l.kept l.initial.pattern_sim.good.circuit l.initial.pattern_sim.block.vectors l.numbers) (length l.initial.pattern_sim.block.vectors) l.initial.table l.table l.place l.first;
}
