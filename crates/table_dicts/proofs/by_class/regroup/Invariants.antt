use Rattle.std.proofs.Common.{◌≡◌, get_or, map, take}
use Rattle.table_dicts.proofs.by_class.regroup.Given as goal

abbrev pub invariant-loop-group : goal.invariant-loop-group
invariant-loop-group l = l.groups ≡ map (λ group. get_or l.outer group 0) (take l.group-index l.inner)
