use Rattle.std.proofs.Common.{◌≡◌, map}
use Rattle.std.specs.List.{range_with_len}
use Rattle.net_model.specs.ClassTable.{representative}
use Rattle.table_dicts.proofs.by_class.representatives.Given as goal

abbrev pub invariant-loop-class : goal.invariant-loop-class
invariant-loop-class l = l.lowest.items ≡ map (representative l.classes) (range_with_len 0 l.class)
