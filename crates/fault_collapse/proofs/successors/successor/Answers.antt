use Rattle.std.proofs.Common.{subst}
use Rattle.net_model.specs.Fault.{IsFaultOf}
use Rattle.fault_collapse.proofs.Found.{gate_inside, no_gate, one_gate, free_none}
use Rattle.fault_collapse.proofs.successors.successor.Goals as goal

pub returns-in_err-entered_gate-in-Stuck : goal.returns-in_err-entered_gate-in-Stuck
returns-in_err-entered_gate-in-Stuck c =
    rw (c.in-Stuck.is, c.from_residual.ensures) (no_gate c.args.circuit.now c.in-Stuck.site c.in-Stuck.bit c.in_err-entered_gate-in-Stuck.ensures)

pub returns-in-Free : goal.returns-in-Free
returns-in-Free c = rw c.in-Free.is (free_none c.args.circuit.now)

pub returns-in_ok-entered_gate-in-Stuck : goal.returns-in_ok-entered_gate-in-Stuck
returns-in_ok-entered_gate-in-Stuck c = rw c.in-Stuck.is (one_gate c.args.circuit.now c.in-Stuck.site c.in-Stuck.bit _ c.carried_fault.result c.in_ok-entered_gate-in-Stuck.ensures c.carried_fault.ensures)

pub carried_fault-requires-clause-from : goal.carried_fault-requires-clause-from
carried_fault-requires-clause-from c =
    let circuit = c.args.circuit.now in
    (gate_inside circuit c.in-Stuck.site c.in-Stuck.bit _ (subst (IsFaultOf circuit) c.in-Stuck.is c.requires.fault) c.in_ok-entered_gate-in-Stuck.ensures).0

pub carried_fault-requires-clause-below : goal.carried_fault-requires-clause-below
carried_fault-requires-clause-below c =
    let circuit = c.args.circuit.now in
    (gate_inside circuit c.in-Stuck.site c.in-Stuck.bit _ (subst (IsFaultOf circuit) c.in-Stuck.is c.requires.fault) c.in_ok-entered_gate-in-Stuck.ensures).1
