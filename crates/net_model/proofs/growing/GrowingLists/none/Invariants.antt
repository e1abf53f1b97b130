use Rattle.std.proofs.Common.{◌≡◌, [], map, replicate}
use Rattle.std.specs.Prelude.{vec_capacity}
use Rattle.net_model.proofs.growing.GrowingLists.none.Given as goal

abbrev pub invariant-loop : goal.invariant-loop
invariant-loop g l = record {
  lists : map (λ list. list.items) l.lists.items ≡ replicate l.counter [];
  room : vec_capacity l.lists ≡ l.count;
}
