use Rattle.std.specs.Prelude.{◌≡◌, ◌≤◌, ◌<◌, ◌%◌, ◌-◌, length}
use Rattle.table_dicts.specs.Blocks.{IsPatternSim}
use Rattle.suspect_scores.proofs.PatternSimLemmas.{AreExplained}
use Rattle.suspect_scores.proofs.explaining.explained_rows.Given as goal

abbrev pub invariant-loop-first : goal.invariant-loop-first
invariant-loop-first l = record {
  pattern_sim : IsPatternSim l.pattern_sim.good.circuit l.pattern_sim;
  circuit : l.pattern_sim.good.circuit ≡ l.setting.subject.now;
  within : l.first ≤ length l.patterns;
  aligned : l.first < length l.patterns → l.first % 64 ≡ 0;
  explained : AreExplained l.setting l.logged l.numbers l.first l.rows;
}

abbrev pub decreases-loop-first : goal.decreases-loop-first
decreases-loop-first l = length l.patterns - l.first
