use Rattle.std.proofs.Common.{◌-◌, length}
use Rattle.net_model.specs.ClassTable.{class_count}
use Rattle.dia_gen.specs.Draft.{IsDraft}
use Rattle.dia_gen.specs.Marked.{AreMarkedUpTo}
use Rattle.dia_gen.proofs.draft.Draft.mark_all.Given as goal

abbrev pub ghost-mark_round : goal.ghost-mark_round
ghost-mark_round g a = g.start

abbrev pub decreases-loop-next : goal.decreases-loop-next
decreases-loop-next g l = length l.self.keeper.kept.table.class_of - class_count l.self.keeper.kept.table

abbrev pub invariant-loop-next : goal.invariant-loop-next
invariant-loop-next g l = record {
  draft : IsDraft l.setting l.self g.start (g.S.Shelf.state l.shelf);
  marked : AreMarkedUpTo l.self.keeper.kept.table l.self.marks l.from;
}
