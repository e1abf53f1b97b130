use Rattle.std.specs.BTreeMap.{get}
use Rattle.class_refine.proofs.Leaving.{AreNoted}
use Rattle.dict_rows.specs.Grouped.{words_order, AreFirstsOf}
use Rattle.dict_rows.proofs.grouping.sort.Given as goal

abbrev pub invariant-loop-row : goal.invariant-loop-row
invariant-loop-row l = record {
  firsts : AreFirstsOf l.rows l.row l.sorted.groups l.sorted.firsts.items;
  noted : AreNoted l.rows l.sorted.firsts.items (get words_order l.begun);
}
