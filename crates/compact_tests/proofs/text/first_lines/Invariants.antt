use Rattle.std.proofs.Common.{◌≡◌, ◌++◌, map, take}
use Rattle.std.specs.String.{string_bytes}
use Rattle.result_records.specs.declared.record.Record.TheVariants.{Pattern}
use Rattle.result_records.specs.Spelling.{text_of}
use Rattle.compact_tests.specs.Keeping.{vectors_at}
use Rattle.compact_tests.proofs.text.first_lines.Given as goal

abbrev pub invariant-loop-place : goal.invariant-loop-place
invariant-loop-place l = string_bytes l.lines ≡ string_bytes l.initial.lines ++ text_of (map Pattern (take l.place-index (vectors_at l.patterns l.places)))
