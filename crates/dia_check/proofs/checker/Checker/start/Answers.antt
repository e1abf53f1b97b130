use Rattle.std.proofs.Common.{◌∙◌, refl, subst}
use Rattle.net_model.specs.Circuit.{IsCircuit}
use Rattle.dia_check.proofs.StartLemmas.{check_none}
use Rattle.dia_check.proofs.checker.Checker.start.Goals as goal

pub returns : goal.returns
returns c =
    check_none c.args.subject.now (subst IsCircuit c.circuit.ensures.value c.circuit.ensures.circuit) (rw c.numbers.ensures.value at c.numbers.ensures.few) _ c.in_ok-new.ensures (rw c.numbers.ensures.value at c.in_ok-none.ensures) refl c.none-2.ensures
    (record { circuit = c.in_ok-new-2.ensures.circuit ∙ c.circuit.ensures.value; empty = c.in_ok-new-2.ensures.empty }) c.new-3.ensures.items
