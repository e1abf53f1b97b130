use Rattle.std.proofs.Common.{◌≡◌, ◌++◌, ◌-◌, ℕ, List, length}
use Rattle.kept_vectors.proofs.UnitLemmas.{AreListedBelow}
use Rattle.kept_vectors.proofs.units.Units.list_chain.Given as goal

abbrev pub invariant-loop-number : goal.invariant-loop-number
invariant-loop-number l = (more : List ℕ) × (l.numbers.items ≡ l.initial.numbers.items ++ more) × AreListedBelow l.self.roots.now l.unit l.number more

abbrev pub decreases-loop-number : goal.decreases-loop-number
decreases-loop-number l = length l.self.nexts.items - l.number
