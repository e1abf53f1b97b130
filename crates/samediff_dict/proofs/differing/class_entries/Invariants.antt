use Rattle.std.proofs.Common.{length}
use Rattle.dict_rows.specs.Rows.{AreRowsBegun}
use Rattle.samediff_dict.specs.Copied.{class_entry}
use Rattle.samediff_dict.proofs.differing.class_entries.Given as goal

abbrev pub invariant-loop-class : goal.invariant-loop-class
invariant-loop-class l = AreRowsBegun l.classes (length l.chosen) l.class (class_entry l.patterns l.chosen) l.entries
