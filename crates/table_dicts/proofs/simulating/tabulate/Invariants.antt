use Rattle.std.proofs.Common.{◌<◌, ◌≤◌, ◌-◌, ◌%◌, ◌≡◌, length}
use Rattle.table_dicts.specs.Blocks.{IsPatternSim, IsListedBit, kept_width, AreRightBits}
use Rattle.table_dicts.proofs.simulating.tabulate.Given as goal

abbrev pub invariant-loop-first : goal.invariant-loop-first
invariant-loop-first l = record {
  pattern_sim : IsPatternSim l.pattern_sim.good.circuit l.pattern_sim;
  circuit : l.pattern_sim.good.circuit ≡ l.fn.subject;
  within : l.first ≤ length l.patterns;
  aligned : l.first < length l.patterns → l.first % 64 ≡ 0;
  right : AreRightBits (IsListedBit l.kept l.fn.subject l.patterns l.numbers) (length l.patterns) (length l.numbers) (kept_width l.kept (length l.fn.subject.positions)) l.first l.table;
}

abbrev pub decreases-loop-first : goal.decreases-loop-first
decreases-loop-first l = length l.patterns - l.first
