use Rattle.std.proofs.Common.{map, take}
use Rattle.result_records.specs.declared.record.Record.TheVariants.{Pattern}
use Rattle.result_records.specs.Spelling.{text_of}
use Rattle.dia_gen.specs.Writing.{HasGathered}
use Rattle.dia_gen.proofs.writing.write_patterns.Given as goal

abbrev pub invariant-loop-pattern : goal.invariant-loop-pattern
invariant-loop-pattern g l = HasGathered (text_of (take l.pattern-index (map Pattern l.patterns))) l.initial.gathered l.gathered (g.S.Shelf.state l.initial.shelf) (g.S.Shelf.state l.shelf)
