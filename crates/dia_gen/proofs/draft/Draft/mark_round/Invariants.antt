use Rattle.std.proofs.Common.{◌≡◌, ◌<◌, ◌-◌, ℕ, length}
use Rattle.std.specs.Prelude.{IsSome}
use Rattle.member_marks.specs.Given.{given_mark}
use Rattle.dia_gen.specs.Draft.{IsDraft}
use Rattle.dia_gen.proofs.draft.Draft.mark_round.Given as goal

abbrev pub ghost-settle : goal.ghost-settle
ghost-settle g a = g.start

abbrev pub decreases-loop-member : goal.decreases-loop-member
decreases-loop-member g l = length l.self.keeper.kept.table.class_of - l.from

abbrev pub invariant-loop-member : goal.invariant-loop-member
invariant-loop-member g l = record {
  draft : IsDraft l.setting l.self g.start (g.S.Shelf.state l.shelf);
  same : l.self.keeper.kept ≡ l.initial.self.keeper.kept;
  below : (n : ℕ) → n < l.from → IsSome (given_mark l.self.keeper.kept.table l.self.marks n);
}
