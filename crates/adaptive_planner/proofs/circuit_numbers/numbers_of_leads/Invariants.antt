use Rattle.std.proofs.Common.{◌≡◌, ◌-◌, ◌≤◌, length}
use Rattle.adaptive_planner.specs.CircuitNumbers.{AreLeadsNumbered}
use Rattle.adaptive_planner.proofs.circuit_numbers.numbers_of_leads.Given as goal

abbrev pub invariant-loop-first : goal.invariant-loop-first
invariant-loop-first l = record {
  within : l.first ≤ length l.vectors;
  circuit : l.source.circuit ≡ l.setting.subject.now;
  leads : l.source.leads ≡ l.leads;
  sources : l.block.sources ≡ l.setting.subject.now.sources;
  numbered : AreLeadsNumbered l.setting.subject.now l.setting.patterns.now l.leads l.first l.numbers;
}

abbrev pub decreases-loop-first : goal.decreases-loop-first
decreases-loop-first l = length l.vectors - l.first
