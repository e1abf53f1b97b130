use Rattle.std.proofs.Common.{arith, length, ap}
use Rattle.net_model.proofs.Wired.{few_pins}
use Rattle.fault_list.proofs.slots.pin_count.Goals as goal

pub overflow_cast-result : goal.overflow_cast-result
overflow_cast-result c = omega (arith, ap length c.as_slice.ensures, few_pins c.args.circuit.now c.gate.ensures.circuit c.args.line c.gate.result.now c.gate.ensures.value)
