use Rattle.std.proofs.Common.{arith, ap, length}
use Rattle.fault_list.proofs.Stuck.{length-stuck}
use Rattle.fault_list.proofs.numbers.FaultList.len.Goals as goal

pub returns-clause-value : goal.returns-clause-value
returns-clause-value c = omega (arith, ap length c.self.view_is, length-stuck c.self.inside.sites.items, c.len.ensures, c.self.inside.sites.ok.0)
