use Rattle.std.specs.Prelude.{◌≡◌, ◌≤◌, ◌<◌, ◌%◌, ◌-◌, length}
use Rattle.net_model.specs.Circuit.{line_count}
use Rattle.table_dicts.specs.Blocks.{IsPatternSim}
use Rattle.bridging_faults.specs.Simulated.{IsFreeValue, IsTurnedBit, AreKnown}
use Rattle.bridging_faults.proofs.simulating.simulate.Given as goal

abbrev pub invariant-loop-first : goal.invariant-loop-first
invariant-loop-first l = record {
  pattern_sim : IsPatternSim l.pattern_sim.good.circuit l.pattern_sim;
  circuit : l.pattern_sim.good.circuit ≡ l.setting.subject.now;
  within : l.first ≤ length l.patterns;
  aligned : l.first < length l.patterns → l.first % 64 ≡ 0;
  good : AreKnown (IsFreeValue l.setting.subject.now l.logged.patterns.items) (line_count l.setting.subject.now) (length l.logged.patterns.items) l.first l.good;
  turned : AreKnown (IsTurnedBit l.setting l.logged) (line_count l.setting.subject.now) (length l.logged.patterns.items) l.first l.turned;
}

abbrev pub decreases-loop-first : goal.decreases-loop-first
decreases-loop-first l = length l.patterns - l.first
