use Rattle.std.proofs.Common.{◌≡◌, filter}
use Rattle.std.specs.List.{range_with_len}
use Rattle.net_model.specs.ClassTable.{class_at, representative}
use Rattle.compact_tests.specs.Mixed.{exceeds_class}
use Rattle.compact_tests.proofs.mixed.mixed_classes.Given as goal

abbrev pub invariant-loop-class : goal.invariant-loop-class
invariant-loop-class l = l.mixed.items ≡ filter (λ class. exceeds_class l.classes l.groups (class_at l.groups (representative l.classes class))) (range_with_len 0 l.class)
