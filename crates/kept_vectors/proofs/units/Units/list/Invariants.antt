use Rattle.std.proofs.Common.{◌≡◌, ◌++◌, ℕ, List, take}
use Rattle.kept_vectors.specs.Units.{AreOfUnits}
use Rattle.kept_vectors.proofs.units.Units.list.Given as goal

abbrev pub invariant-loop-unit : goal.invariant-loop-unit
invariant-loop-unit l = (more : List ℕ) × (l.numbers.items ≡ l.initial.numbers.items ++ more) × AreOfUnits l.self.roots.now (take l.unit-index l.units) more
