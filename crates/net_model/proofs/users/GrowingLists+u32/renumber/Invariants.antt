use Rattle.std.proofs.Common.{map}
use Rattle.std.specs.Prelude.{slice_index}
use Rattle.net_model.proofs.WiringLemmas.{AreRenumbered}
use Rattle.net_model.proofs.users.GrowingLists+u32.renumber.Given as goal

abbrev pub invariant-loop-line : goal.invariant-loop-line
invariant-loop-line l = AreRenumbered (λ user. slice_index l.numbers user) l.line l.fn.self (map (λ list. list.items) l.self-inside.lists.items)
