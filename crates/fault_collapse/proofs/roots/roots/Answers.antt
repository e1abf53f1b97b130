use Rattle.std.proofs.Common.{◌∙◌, length, ap}
use Rattle.fault_collapse.proofs.RootSteps.{own_numbers}
use Rattle.fault_collapse.proofs.roots.roots.Goals as goal

pub find_stem_roots-requires-clause-own : goal.find_stem_roots-requires-clause-own
find_stem_roots-requires-clause-own c = own_numbers c.args.circuit.now c.args.successors.now c.len.result c.in_ok-roots.roots.items (c.len.ensures.value ∙ ap length c.requires.faults) c.in_ok-roots.ensures
