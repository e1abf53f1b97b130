use Rattle.std.proofs.Common.{◌≡◌, take}
use Rattle.std.specs.Prelude.{map}
use Rattle.bench_reader.specs.Names.{texts_in}
use Rattle.bench_reader.specs.Reading.{named_word}
use Rattle.bench_reader.specs.Scanning.{named_in}
use Rattle.bench_reader.specs.Numbering.{with_names}
use Rattle.bench_reader.proofs.numbers.words.Given as goal

abbrev pub invariant-loop-pin : goal.invariant-loop-pin
invariant-loop-pin l = record {
  names : texts_in l.names ≡ with_names (texts_in l.fn.names) (map (named_in l.bytes) (take l.pin-index l.pins));
  words : l.words ≡ map (named_word l.bytes (texts_in l.names)) (map (named_in l.bytes) (take l.pin-index l.pins));
}
