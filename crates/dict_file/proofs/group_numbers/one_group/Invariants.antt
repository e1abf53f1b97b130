use Rattle.std.proofs.Common.{◌≡◌, replicate}
use Rattle.dict_file.proofs.group_numbers.one_group.Given as goal

abbrev pub invariant-loop-row : goal.invariant-loop-row
invariant-loop-row l = l.groups ≡ replicate l._row 0
