use Rattle.std.proofs.Common.{◌∙◌, ◌+◌, ℕ, List, length, sym, ap, arith, subst}
use Rattle.std.specs.Prelude.{Option, slice_get}
use Rattle.fault_collapse.proofs.Numbers.{number_stands}
use Rattle.fault_collapse.proofs.Found.{FoundBelow, none_found, more_found, all_found}
use Rattle.fault_collapse.proofs.successors.successors.Goals as goal

pub loop-number-init : goal.loop-number-init
loop-number-init c = none_found c.args.circuit.now c.in_ok-found.found.items c.in_ok-found.ensures.items

pub successor-requires-clause-fault : goal.successor-requires-clause-fault
successor-requires-clause-fault c = number_stands c.args.circuit.now c.loop-number.number c.get.result (ap (λ xs. slice_get xs c.loop-number.number) (sym c.requires) ∙ c.get.ensures.value)

pub loop-number-preserved : goal.loop-number-preserved
loop-number-preserved c =
    let there = ap (λ xs. slice_get xs c.loop-number.number) (sym c.requires) ∙ c.get.ensures.value in
    subst (FoundBelow c.args.circuit.now (c.loop-number.number + 1)) (sym {A = List (Option ℕ)} c.in_ok-push.ensures.items)
    (more_found c.args.circuit.now c.loop-number.number c.loop-number.found.items c.successor.result c.get.result there c.successor.ensures c.loop-number.invariant)

pub returns : goal.returns
returns c = all_found c.args.circuit.now c.loop-number.number c.loop-number.found.items (omega (arith, c.len-number-end.ensures.value, ap length c.requires)) c.loop-number.invariant
