use Rattle.std.proofs.Common.{◌≡◌, ℕ, ◌<◌, Bool, Some, None, get_or}
use Rattle.kept_vectors.proofs.cube.bind.Given as goal

abbrev pub invariant-loop-source : goal.invariant-loop-source
invariant-loop-source l = record {
  bound : (k : ℕ) (bit : Bool) → k < l.source → get_or l.other k None ≡ Some bit → get_or l.cube k None ≡ Some bit;
  free : (k : ℕ) → get_or l.other k None ≡ None → get_or l.cube k None ≡ get_or l.fn.cube k None;
}
