use Rattle.std.proofs.Common.{◌≡◌, ◌<◌, arith, subst}
use Rattle.net_model.specs.FaultList.{fault_count}
use Rattle.fault_collapse.proofs.RootSteps.{next_within, no_roots, root_more, all_roots, RootsBelow}
use Rattle.fault_collapse.proofs.roots.find_roots.Goals as goal

pub loop-number-init : goal.loop-number-init
loop-number-init c = no_roots c.args.circuit.now c.stands.ensures c.args.successors.now c.requires.successors c.args.roots.now.items c.requires.own c.requires.stems

pub follow-requires-clause-known : goal.follow-requires-clause-known
follow-requires-clause-known c = omega (arith, c.requires.successors.whole, c.requires.own.whole, c.len-number-end.ensures)

pub follow-requires-clause-successor : goal.follow-requires-clause-successor
follow-requires-clause-successor c = λ next e.
    let within : c.loop-number.number < fault_count c.args.circuit.now = omega (arith, c.requires.own.whole, c.len-number-end.ensures) in
    omega (arith, next_within c.args.circuit.now c.stands.ensures c.args.successors.now c.requires.successors c.loop-number.number next within e, c.loop-number.invariant.own.whole)

pub loop-number-preserved : goal.loop-number-preserved
loop-number-preserved c =
    let within : c.loop-number.number < fault_count c.args.circuit.now = omega (arith, c.requires.own.whole, c.len-number-end.ensures) in
    root_more c.args.circuit.now c.stands.ensures c.args.successors.now c.requires.successors c.loop-number.number c.loop-number.roots.items c.follow.new.roots.items within c.loop-number.invariant c.follow.ensures

pub returns : goal.returns
returns c =
    let all : c.loop-number.number ≡ fault_count c.args.circuit.now = omega (arith, c.requires.own.whole, c.len-number-end.ensures) in
    all_roots c.args.circuit.now c.stands.ensures c.args.successors.now c.requires.successors c.loop-number.roots.items (subst (λ n. RootsBelow c.args.circuit.now c.args.successors.now n c.loop-number.roots.items) all c.loop-number.invariant)
