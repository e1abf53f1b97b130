use Rattle.std.proofs.Common.{take}
use Rattle.net_model.specs.Topological.{AddsUser}
use Rattle.net_model.proofs.users.GrowingLists+u32.add_all.Given as goal

abbrev pub invariant-loop-line : goal.invariant-loop-line
invariant-loop-line l = AddsUser l.user (take l.line-index l.lines) l.fn.self l.self
