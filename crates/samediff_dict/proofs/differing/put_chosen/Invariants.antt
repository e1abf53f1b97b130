use Rattle.std.proofs.Common.{set}
use Rattle.samediff_dict.specs.Copied.{class_entry}
use Rattle.samediff_dict.proofs.DifferingLemmas.{AreSetTo}
use Rattle.samediff_dict.proofs.differing.put_chosen.Given as goal

abbrev pub invariant-loop-class : goal.invariant-loop-class
invariant-loop-class l = AreSetTo l.classes (class_entry l.patterns l.chosen) (class_entry l.patterns (set l.chosen l.pattern l.number)) l.class l.entries
