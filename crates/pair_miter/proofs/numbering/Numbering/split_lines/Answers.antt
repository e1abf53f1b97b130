use Rattle.std.proofs.Common.{subst}
use Rattle.net_model.specs.Circuit.{IsCircuit}
use Rattle.pair_miter.specs.MiterView.{Miter}
use Rattle.pair_miter.proofs.numbering.Numbering.split_lines.Goals as goal

pub returns-clause-circuit : goal.returns-clause-circuit
returns-clause-circuit c = subst (λ (p : Miter). IsCircuit p.circuit) c.self.view_is c.self.invariant.circuit
