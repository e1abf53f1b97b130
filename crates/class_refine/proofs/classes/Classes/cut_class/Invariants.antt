use Rattle.std.proofs.Common.{◌≡◌, map}
use Rattle.std.specs.BTreeMap.{get}
use Rattle.net_model.specs.ClassTable.{class_at}
use Rattle.class_refine.proofs.Leaving.{words_order, begun, so_far, AreNoted}
use Rattle.class_refine.proofs.classes.Classes.cut_class.Given as goal

abbrev pub invariant-loop-n : goal.invariant-loop-n
invariant-loop-n l = record {
  groups : l.pieces.groups.items ≡ so_far l.self l.answers l.class l.n-index;
  parents : l.pieces.parents.items ≡ map (class_at l.self) (begun l.self l.answers l.class l.n-index);
  noted : AreNoted l.answers (begun l.self l.answers l.class l.n-index) (get words_order l.begun);
}
