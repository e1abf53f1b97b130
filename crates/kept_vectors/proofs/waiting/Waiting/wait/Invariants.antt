use Rattle.std.proofs.Common.{drop}
use Rattle.kept_vectors.specs.Waits.{AreWaiting}
use Rattle.kept_vectors.proofs.waiting.Waiting.wait.Given as goal

abbrev pub invariant-loop-number : goal.invariant-loop-number
invariant-loop-number l = AreWaiting l.good l.differences.units.roots.now l.classes l.from l.live l.self.lanes.items (drop l.number-index l.numbers)
