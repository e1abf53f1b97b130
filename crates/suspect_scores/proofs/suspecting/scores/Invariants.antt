use Rattle.std.specs.Prelude.{◌≡◌, ◌≤◌, ◌-◌, length}
use Rattle.table_dicts.specs.Blocks.{IsPatternSim}
use Rattle.suspect_scores.proofs.PatternSimLemmas.{AreScored}
use Rattle.suspect_scores.proofs.suspecting.scores.Given as goal

abbrev pub invariant-loop-first : goal.invariant-loop-first
invariant-loop-first l = record {
  pattern_sim : IsPatternSim l.pattern_sim.good.circuit l.pattern_sim;
  circuit : l.pattern_sim.good.circuit ≡ l.setting.subject.now;
  within : l.first ≤ length l.patterns;
  scored : AreScored l.setting l.logged l.numbers l.first l.scores.items;
}

abbrev pub decreases-loop-first : goal.decreases-loop-first
decreases-loop-first l = length l.patterns - l.first
