use Rattle.std.proofs.Common.{◌≡◌, ◌≤◌, length}
use Rattle.kept_vectors.specs.Units.{AreChains}
use Rattle.kept_vectors.proofs.units.link.Given as goal

abbrev pub invariant-loop-number : goal.invariant-loop-number
invariant-loop-number l = record {
  low : l.number ≤ length l.roots;
  firsts : length l.firsts ≡ length l.roots;
  nexts : length l.nexts ≡ length l.roots;
  chains : AreChains l.roots l.number l.firsts l.nexts;
}

abbrev pub decreases-loop-number : goal.decreases-loop-number
decreases-loop-number l = l.number
