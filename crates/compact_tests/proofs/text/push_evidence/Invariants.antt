use Rattle.std.proofs.Common.{◌≡◌, ◌++◌, ◌≤◌, List, length, map}
use Rattle.std.specs.Prelude.{filter_map}
use Rattle.std.specs.List.{range_with_len}
use Rattle.result_records.specs.declared.record.Evidence.{Evidence}
use Rattle.result_records.specs.declared.record.Record.TheVariants.{Same}
use Rattle.result_records.specs.Spelling.{text_of}
use Rattle.compact_tests.specs.ThinResult.{evidence_for}
use Rattle.compact_tests.specs.Stated.{AreEvidenceLines}
use Rattle.compact_tests.proofs.text.push_evidence.Given as goal

abbrev pub invariant-loop-number : goal.invariant-loop-number
invariant-loop-number l = record {
  within : l.number ≤ length l.lines;
  text : (evidence : List Evidence) → AreEvidenceLines l.bytes evidence l.lines → l.text.items ≡ l.initial.text.items ++ text_of (map Same (filter_map (evidence_for l.classes evidence) (range_with_len 0 l.number)));
}
