use Rattle.std.proofs.Common.{◌≡◌, ◌-◌, ◌≤◌, length}
use Rattle.samediff_dict.specs.Numbered.{AreFoundTo}
use Rattle.samediff_dict.proofs.setting.candidates_of.Given as goal

abbrev pub invariant-loop-first : goal.invariant-loop-first
invariant-loop-first l = record {
  within : l.first ≤ length l.vectors;
  circuit : l.numbers.circuit ≡ l.setting.subject.now;
  leads : l.numbers.leads ≡ l.leads;
  sources : l.block.sources ≡ l.setting.subject.now.sources;
  found : AreFoundTo l.setting.subject.now l.leads l.vectors l.first l.patterns.items;
}

abbrev pub decreases-loop-first : goal.decreases-loop-first
decreases-loop-first l = length l.vectors - l.first
