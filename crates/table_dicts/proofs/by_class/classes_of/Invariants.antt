use Rattle.std.proofs.Common.{◌≡◌, ◌<◌, map, take, All}
use Rattle.net_model.specs.ClassTable.{class_count, class_at}
use Rattle.table_dicts.proofs.by_class.classes_of.Given as goal

abbrev pub invariant-loop-number : goal.invariant-loop-number
invariant-loop-number l = record { classes : l.list.items ≡ map (class_at l.classes) (take l.number-index l.numbers); within : All (λ class. class < class_count l.classes) l.list.items }
