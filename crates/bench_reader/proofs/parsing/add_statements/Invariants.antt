use Rattle.std.proofs.Common.{◌≤◌, length}
use Rattle.bench_reader.specs.Names.{texts_in}
use Rattle.bench_reader.specs.Scanning.{tokens_at, IsPlace}
use Rattle.bench_reader.proofs.ReadLemmas.{ReadSoFar}
use Rattle.bench_reader.proofs.parsing.add_statements.Given as goal

abbrev pub invariant-statements : goal.invariant-statements
invariant-statements l = record {
  read : ReadSoFar l.bytes l.place.byte l.statements.items (texts_in l.names);
  place : IsPlace l.bytes l.place;
  within : l.place.byte ≤ length l.bytes;
}

abbrev pub decreases-statements : goal.decreases-statements
decreases-statements l = length (tokens_at l.bytes l.place.byte)
