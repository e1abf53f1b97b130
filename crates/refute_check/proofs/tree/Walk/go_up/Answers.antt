use Rattle.std.proofs.Common.{◌≡◌, ◌<◌, length, sym, ap, subst, arith}
use Rattle.std.specs.Prelude.{None}
use Rattle.pair_sets.specs.Cube.{fixed_bit}
use Rattle.pair_sets.specs.PairSim.{PairSim}
use Rattle.refute_check.proofs.WalkLemmas.{last_first, last_once, is_undone, up_more, second_half}
use Rattle.refute_check.proofs.tree.Walk.go_up.Goals as goal

pub undo-requires : goal.undo-requires
undo-requires c = omega (arith, ap length (last_first c.args.self.now c.loop-source.self c.loop-source.invariant c.pop.new.self (c.in-Some.source, c.in-Some.bit) c.in-Some.ensures.items))

pub assign-requires-clause-source : goal.assign-requires-clause-source
assign-requires-clause-source c =
    let walk = c.loop-source.self in
    let undone = is_undone c.args.self.now walk c.loop-source.invariant c.pop.new.self (c.in-Some.source, c.in-Some.bit) c.in-Some.ensures.items c.undo.new.self c.undo.ensures in
    subst (λ (sim : PairSim). c.in-Some.source < sim.circuit.sources) (sym undone) (last_once c.args.self.now walk c.loop-source.invariant c.pop.new.self (c.in-Some.source, c.in-Some.bit) c.in-Some.ensures.items).0

pub assign-requires-clause-free : goal.assign-requires-clause-free
assign-requires-clause-free c =
    let walk = c.loop-source.self in
    let undone = is_undone c.args.self.now walk c.loop-source.invariant c.pop.new.self (c.in-Some.source, c.in-Some.bit) c.in-Some.ensures.items c.undo.new.self c.undo.ensures in
    subst (λ (sim : PairSim). fixed_bit sim.cube c.in-Some.source ≡ None) (sym undone) (last_once c.args.self.now walk c.loop-source.invariant c.pop.new.self (c.in-Some.source, c.in-Some.bit) c.in-Some.ensures.items).1

pub returns-then-not-bit : goal.returns-then-not-bit
returns-then-not-bit c =
    second_half c.args.self.now c.loop-source.self c.loop-source.invariant c.pop.new.self (c.in-Some.source, c.in-Some.bit) c.in-Some.ensures.items c.undo.new.self c.undo.ensures
    c.if-not-bit.true c.push.new.self c.assign.new.self c.in_ok-push.ensures.items c.assign.ensures

pub loop-source-preserved : goal.loop-source-preserved
loop-source-preserved c =
    up_more c.args.self.now c.loop-source.self c.loop-source.invariant c.pop.new.self (c.in-Some.source, c.in-Some.bit) c.in-Some.ensures.items c.undo.new.self c.undo.ensures c.if-not-bit.false
