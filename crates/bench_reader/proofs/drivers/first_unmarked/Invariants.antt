use Rattle.std.proofs.Common.{◌≡◌, None, take}
use Rattle.std.specs.Prelude.{flat_map}
use Rattle.bench_reader.specs.Drivers.{used_words, unmarked}
use Rattle.bench_reader.proofs.drivers.first_unmarked.Given as goal

abbrev pub invariant-loop-statement : goal.invariant-loop-statement
invariant-loop-statement l = unmarked l.marks (flat_map used_words (take l.statement-index l.statements)) ≡ None
