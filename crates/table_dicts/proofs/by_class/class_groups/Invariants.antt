use Rattle.table_dicts.proofs.ClassGroupLemmas.{AreBegun}
use Rattle.table_dicts.proofs.by_class.class_groups.Given as goal

abbrev pub invariant-loop-number : goal.invariant-loop-number
invariant-loop-number l = AreBegun l.classes l.number l.sorted.groups l.sorted.firsts.items l.noted.items
