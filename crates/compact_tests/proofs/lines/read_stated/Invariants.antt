use Rattle.std.proofs.Common.{◌≡◌, ◌-◌, List, length}
use Rattle.result_records.specs.declared.record.Record.{Record}
use Rattle.compact_tests.specs.Stated.{IsReadable, IsStatedTo}
use Rattle.compact_tests.proofs.lines.read_stated.Given as goal

abbrev pub invariant-loop-start : goal.invariant-loop-start
invariant-loop-start l = record {
  count : length l.stated.evidence.items ≡ l.numbers;
  stated : (records : List Record) → IsReadable l.bytes l.numbers records → IsStatedTo l.bytes l.numbers l.start records l.stated;
}

abbrev pub decreases-loop-start : goal.decreases-loop-start
decreases-loop-start l = length l.bytes - l.start
