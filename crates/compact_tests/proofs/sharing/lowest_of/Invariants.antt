use Rattle.std.proofs.Common.{◌≡◌, ◌<◌, map, take, length}
use Rattle.std.specs.Prelude.{All}
use Rattle.net_model.specs.ClassTable.{representative}
use Rattle.compact_tests.proofs.sharing.lowest_of.Given as goal

abbrev pub invariant-loop-class : goal.invariant-loop-class
invariant-loop-class l = record {
  lowest : l.lowest.items ≡ map (representative l.classes) (take l.class-index l.listed);
  within : All (λ number. number < length l.classes.class_of) l.lowest.items;
}
