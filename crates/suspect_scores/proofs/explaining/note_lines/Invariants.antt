use Rattle.std.specs.Prelude.{◌≡◌}
use Rattle.table_dicts.specs.Blocks.{HasRunPatterns}
use Rattle.suspect_scores.specs.NotedRows.{AreNoted}
use Rattle.suspect_scores.proofs.explaining.note_lines.Given as goal

abbrev pub invariant-loop-place : goal.invariant-loop-place
invariant-loop-place l = record {
  pattern_sim : l.pattern_sim ≡ record l.initial.pattern_sim { sim = l.pattern_sim.sim };
  run : HasRunPatterns l.pattern_sim;
  noted : AreNoted l.initial.pattern_sim.good.circuit l.initial.pattern_sim.block.vectors l.columns l.first l.initial.rows l.rows l.numbers l.place;
}
