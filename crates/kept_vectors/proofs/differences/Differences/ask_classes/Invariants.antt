use Rattle.std.proofs.Common.{◌≡◌}
use Rattle.fault_heads.specs.Ways.{AreWays}
use Rattle.kept_vectors.specs.Notes.{AreOf, IsUnitAsked}
use Rattle.kept_vectors.proofs.GroupLemmas.{AreKnownBelow}
use Rattle.kept_vectors.proofs.differences.Differences.ask_classes.Given as goal

abbrev pub invariant-loop-class : goal.invariant-loop-class
invariant-loop-class l = record {
  of : AreOf l.good.circuit l.self;
  ways : AreWays l.good l.self.heads.ways;
  units : l.self.units.roots.now ≡ l.fn.self.units.roots.now;
  known : AreKnownBelow l.good l.self.units.roots.now (IsUnitAsked l.good l.self) l.classes l.class l.self.numbers.items;
}
