use Rattle.std.proofs.Common.{◌≡◌, length, take}
use Rattle.sample_circuits.specs.Digits.{bits_of}
use Rattle.sample_circuits.proofs.texts.bits.Given as goal

abbrev pub invariant-loop-at : goal.invariant-loop-at
invariant-loop-at l = record {
  whole : length l.bits ≡ length l.text;
  done : take l.at l.bits ≡ bits_of (take l.at l.text);
}
