use Rattle.std.proofs.Common.{◌≡◌, length}
use Rattle.table_dicts.specs.ByRoot.{AreGroupsByRoot}
use Rattle.table_dicts.proofs.by_root.root_groups.Given as goal

abbrev pub invariant-loop-number : goal.invariant-loop-number
invariant-loop-number l = record {
  groups : AreGroupsByRoot l.roots l.number l.sorted.groups l.sorted.firsts.items;
  places : length l.noted.items ≡ length l.roots;
}
