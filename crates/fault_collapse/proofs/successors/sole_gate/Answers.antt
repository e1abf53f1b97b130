use Rattle.std.proofs.Common.{length, sym, ap, arith}
use Rattle.fault_collapse.proofs.Sole.{place_within, user_gate, no_user_gate}
use Rattle.fault_collapse.proofs.successors.sole_gate.Goals as goal
use Rattle.fault_collapse.proofs.successors.sole_gate.Goals.{then-readers-ne1-via-then-readers-ne1, then-readers-ne1-via-else-readers-ne1+then-shown-gt0}

pub returns-then-readers-ne1 : goal.returns-then-readers-ne1
returns-then-readers-ne1 c =
    no_user_gate c.args.circuit.now c.wiring-wiring.result.now c.wiring-wiring.ensures c.args.line c.requires
    (λ one.
    let readers = ap length c.readers-readers.ensures in
    let shown = ap length c.showing-shown.ensures in
    elim c.then-readers-ne1.branch [
      | then-readers-ne1-via-then-readers-ne1 w ↦ omega (arith, one.0, readers)
      | then-readers-ne1-via-else-readers-ne1+then-shown-gt0 w ↦ omega (arith, one.1, shown)
    ])

pub bounds-order-readers : goal.bounds-order-readers
bounds-order-readers c =
    let readers = ap length c.readers-readers.ensures in
    let shown = ap length c.showing-shown.ensures in
    rw (c.order.ensures, c.readers-readers.ensures) (place_within c.args.circuit.now c.wiring-wiring.result.now c.wiring-wiring.ensures c.args.line c.requires (omega (arith, readers), omega (arith, shown)))

pub returns : goal.returns
returns c =
    let readers = ap length c.readers-readers.ensures in
    let shown = ap length c.showing-shown.ensures in
    rw (c.order.ensures, c.readers-readers.ensures) (sym (user_gate c.args.circuit.now c.wiring-wiring.result.now c.wiring-wiring.ensures c.args.line c.requires (omega (arith, readers), omega (arith, shown))))
