use Rattle.std.proofs.Common.{[], subst}
use Rattle.std.proofs.lemmas.List.{get_or_default}
use Rattle.net_model.proofs.Elements.{none_in}
use Rattle.fault_sim.specs.Rows.{IsFalse}
use Rattle.fault_sim.proofs.sim.FaultSim.clear.Goals as goal

pub returns-clause-same : goal.returns-clause-same
returns-clause-same c = λ k d h. subst IsFalse (get_or_default c.clear-2.new.self.rows k [] d h) (c.clear-2.ensures.clear k h (none_in k))
