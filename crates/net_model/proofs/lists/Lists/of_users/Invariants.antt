use Rattle.std.proofs.Common.{◌≡◌, ◌+◌, length}
use Rattle.std.specs.Prelude.{vec_capacity}
use Rattle.net_model.proofs.ListLemmas.{AreLists}
use Rattle.net_model.proofs.lists.Lists.of_users.Given as goal

abbrev pub invariant-loop-line : goal.invariant-loop-line
invariant-loop-line l = record {
  lists : AreLists l.starts.items l.numbers.items l.users l.line;
  room : vec_capacity l.starts ≡ length l.users + 1;
}
