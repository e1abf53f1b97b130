use Rattle.std.proofs.Common.{◌≡◌, length}
use Rattle.kept_vectors.proofs.differences.need_nothing.Given as goal

abbrev pub invariant-loop-place : goal.invariant-loop-place
invariant-loop-place l = length l.needs ≡ length l.initial.needs
