use Rattle.std.proofs.Common.{take}
use Rattle.result_records.specs.Spelling.{text_of}
use Rattle.result_file.specs.Meaning.{class_records}
use Rattle.dia_gen.specs.Writing.{HasGathered}
use Rattle.dia_gen.proofs.writing.write_classes.Given as goal

abbrev pub invariant-loop-class : goal.invariant-loop-class
invariant-loop-class g l = HasGathered (text_of (take l.class (class_records l.classes.births))) l.initial.gathered l.gathered (g.S.Shelf.state l.initial.shelf) (g.S.Shelf.state l.shelf)
