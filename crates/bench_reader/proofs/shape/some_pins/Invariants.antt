use Rattle.std.proofs.Common.{◌≡◌, ℕ, length}
use Rattle.bench_reader.specs.declared.scanner.LexemeKind.TheVariants.{Name}
use Rattle.bench_reader.specs.Scanning.{tokens_at, IsNext}
use Rattle.bench_reader.specs.Shapes.{driver_in}
use Rattle.bench_reader.proofs.PinLemmas.{PinsSoFar}
use Rattle.bench_reader.proofs.shape.some_pins.Given as goal

abbrev pub invariant-pins : goal.invariant-pins
invariant-pins l = record {
  byte : ℕ;
  read : PinsSoFar l.bytes (driver_in l.fn.head.driver) l.fn.head.bracket.end l.pins.items byte;
  next : IsNext l.bytes byte l.pin;
  named : l.pin.kind ≡ Name;
}

abbrev pub decreases-pins : goal.decreases-pins
decreases-pins l = length (tokens_at l.bytes l.pin.end)
