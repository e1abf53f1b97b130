use Rattle.std.proofs.Common.{map, take}
use Rattle.net_model.specs.ClassTable.{number_range}
use Rattle.result_records.specs.Spelling.{text_of}
use Rattle.result_file.specs.Meaning.{member_records}
use Rattle.dia_gen.specs.Marked.{member_for}
use Rattle.dia_gen.specs.Writing.{HasGathered}
use Rattle.dia_gen.proofs.writing.write_members.Given as goal

abbrev pub invariant-loop-number : goal.invariant-loop-number
invariant-loop-number g l = HasGathered (text_of (take l.number (member_records (map (member_for l.classes l.marks) (number_range l.classes))))) l.initial.gathered l.gathered (g.S.Shelf.state l.initial.shelf) (g.S.Shelf.state l.shelf)
