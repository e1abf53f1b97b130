use Rattle.std.proofs.Common.{◌≡◌, ◌<◌, ◌+◌, length, take}
use Rattle.std.specs.Prelude.{All, IsTrue, sum_by}
use Rattle.net_model.specs.declared.gate.Gate.{Gate}
use Rattle.net_model.specs.Gate.{takes_pins}
use Rattle.sample_circuits.proofs.building.fit.Given as goal

abbrev pub invariant-loop-gate : goal.invariant-loop-gate
invariant-loop-gate l = record {
  items : l.items ≡ l.lines + sum_by (λ (gate : Gate). length gate.pins) (take l.gate-index l.gates);
  pins : All (λ (gate : Gate). All (λ pin. pin < l.lines) gate.pins) (take l.gate-index l.gates);
  arities : All (λ (gate : Gate). IsTrue (takes_pins gate.kind (length gate.pins))) (take l.gate-index l.gates);
}
