use Rattle.std.proofs.Common.{◌≡◌, ℕ, ◌<◌, false, length, get_or}
use Rattle.packed_bits.proofs.packed.PackedBits.unpack.Given as goal

abbrev pub invariant-loop-at : goal.invariant-loop-at
invariant-loop-at l = record {
  long : length l.bits ≡ length l.self;
  done : (k : ℕ) → k < l.at → get_or l.bits k false ≡ get_or l.self k false;
}
