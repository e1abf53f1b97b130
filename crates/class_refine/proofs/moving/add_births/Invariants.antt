use Rattle.std.proofs.Common.{◌≡◌, ◌+◌, ◌++◌, map, take, Some}
use Rattle.std.specs.Vec.{vec_len, vec_capacity}
use Rattle.class_refine.proofs.moving.add_births.Given as goal

abbrev pub invariant-loop-parent : goal.invariant-loop-parent
invariant-loop-parent l = record {
  births : l.births.items ≡ l.initial.births.items ++ map (λ parent. Some (parent, l.pattern)) (take l.parent-index l.parents);
  len : vec_len l.births ≡ vec_len l.initial.births + l.parent-index;
  room : vec_capacity l.births ≡ vec_capacity l.initial.births;
}
