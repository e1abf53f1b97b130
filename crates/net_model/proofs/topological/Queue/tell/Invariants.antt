use Rattle.std.proofs.Common.{take}
use Rattle.net_model.specs.Topological.{IsTold}
use Rattle.net_model.proofs.topological.Queue.tell.Given as goal

abbrev pub invariant-loop-reader : goal.invariant-loop-reader
invariant-loop-reader l = IsTold (take l.reader-index l.readers) l.fn.self.waits.items l.self.waits.items l.fn.self.order.items l.self.order.items
