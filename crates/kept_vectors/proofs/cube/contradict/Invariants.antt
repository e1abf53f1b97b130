use Rattle.std.proofs.Common.{ℕ, ◌<◌}
use Rattle.kept_vectors.proofs.CubeLemmas.{DoAgree}
use Rattle.kept_vectors.proofs.cube.contradict.Given as goal

abbrev pub invariant-loop-source : goal.invariant-loop-source
invariant-loop-source l = (k : ℕ) → k < l.source → DoAgree l.one l.other k
