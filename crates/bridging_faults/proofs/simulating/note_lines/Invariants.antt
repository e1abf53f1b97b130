use Rattle.std.specs.Prelude.{◌≡◌, length}
use Rattle.table_dicts.specs.Blocks.{HasRunPatterns}
use Rattle.bridging_faults.specs.Simulated.{IsFreeValue, IsTurnedLane, AreLinesNoted}
use Rattle.bridging_faults.proofs.simulating.note_lines.Given as goal

abbrev pub invariant-loop-line : goal.invariant-loop-line
invariant-loop-line l = record {
  pattern_sim : l.pattern_sim ≡ record l.initial.pattern_sim { sim = l.pattern_sim.sim };
  run : HasRunPatterns l.pattern_sim;
  good : AreLinesNoted (IsFreeValue l.initial.pattern_sim.good.circuit l.initial.pattern_sim.block.vectors) l.first (length l.initial.pattern_sim.block.vectors) l.initial.good l.good l.line;
  turned : AreLinesNoted (IsTurnedLane l.initial.pattern_sim.good.circuit l.initial.pattern_sim.block.vectors l.columns l.first) l.first (length l.initial.pattern_sim.block.vectors) l.initial.turned l.turned l.line;
}
