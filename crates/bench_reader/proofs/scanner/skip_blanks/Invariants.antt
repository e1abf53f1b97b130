use Rattle.std.proofs.Common.{◌≡◌, ◌-◌, ◌≤◌, length, drop}
use Rattle.bench_reader.specs.Scanning.{tokens_at, tokens_in, IsPlace}
use Rattle.bench_reader.proofs.scanner.skip_blanks.Given as goal

abbrev pub invariant-bytes : goal.invariant-bytes
invariant-bytes l = record {
  tokens : tokens_at l.bytes l.fn.place.byte ≡ tokens_in l.inside l.place.byte (drop l.place.byte l.bytes);
  place : IsPlace l.bytes l.place;
  within : l.place.byte ≤ length l.bytes;
}

abbrev pub decreases-bytes : goal.decreases-bytes
decreases-bytes l = length l.bytes - l.place.byte
