use Rattle.std.proofs.Common.{◌≡◌}
use Rattle.fault_heads.specs.Ways.{AreWays}
use Rattle.kept_vectors.specs.Notes.{AreOf, IsNumberAsked, AreAskedLater}
use Rattle.kept_vectors.proofs.GroupLemmas.{IsKnownSoFar}
use Rattle.kept_vectors.proofs.differences.Differences.ask_class.Given as goal

abbrev pub invariant-loop-number : goal.invariant-loop-number
invariant-loop-number l = record {
  of : AreOf l.good.circuit l.self;
  ways : AreWays l.good l.self.heads.ways;
  later : AreAskedLater l.good l.fn.self l.self;
  units : l.self.units.roots.now ≡ l.fn.self.units.roots.now;
  known : IsKnownSoFar l.fn.self.units.roots.now (IsNumberAsked l.good l.self.needs.items l.self.turns.items) l.group l.number-index l.fn.self.numbers.items l.self.numbers.items;
}
