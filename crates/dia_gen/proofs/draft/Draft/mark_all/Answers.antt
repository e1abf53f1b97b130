use Rattle.std.proofs.Common.{refl, arith}
use Rattle.class_refine.proofs.Refined.{few_classes}
use Rattle.class_refine.proofs.PatternTables.{table_numbers}
use Rattle.dia_gen.proofs.draft.Draft.mark_all.Goals as goal

pub loop-next-smaller : goal.loop-next-smaller
loop-next-smaller g c =
    let more = c.in_ok-next.ensures.more (rw c.in-Some.is refl) in
    let now = c.in_ok-next.ensures.draft in
    let few = few_classes c.mark_round.new.self.keeper.kept.table now.is.keeper.whole in
    omega (arith, more, few, table_numbers now.is.keeper.table, table_numbers c.loop-next.invariant.draft.is.keeper.table)
