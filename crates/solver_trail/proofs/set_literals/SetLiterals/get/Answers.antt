use Rattle.std.proofs.Common.{◌∙◌, ◌<◌, length, ap, subst, arith}
use Rattle.std.specs.Prelude.{Contains}
use Rattle.solver_trail.specs.Assignment.{Assignment}
use Rattle.solver_trail.proofs.Placed.{set_slot, slot_read}
use Rattle.solver_trail.proofs.set_literals.SetLiterals.get.Goals as goal

pub index-requires-2 : goal.index-requires-2
index-requires-2 c =
    let i = c.self.inside in
    let within : c.args.variable < length i.slots.items = omega (arith, c.self.invariant.placed.table, ap (λ (a : Assignment). a.variables) c.self.view_is, c.requires) in
    let slot = slot_read i.slots.items c.args.variable c.args.variable c.index.result.now (λ _. c.args.variable) within c.index.ensures ∙ c.in_ok-slot.was in
    omega (arith, (c.self.invariant.placed.entry c.args.variable c.in_ok-slot.slot slot).0, i.entries.ok.0)

pub returns : goal.returns
returns c =
    let i = c.self.inside in
    let x = c.index-2.result.now in
    let within : c.args.variable < length i.slots.items = omega (arith, c.self.invariant.placed.table, ap (λ (a : Assignment). a.variables) c.self.view_is, c.requires) in
    let slot = slot_read i.slots.items c.args.variable c.args.variable c.index.result.now (λ _. c.args.variable) within c.index.ensures ∙ c.in_ok-slot.was in
    let there = set_slot c.self.invariant.placed c.args.variable c.in_ok-slot.slot x slot c.index-2.ensures in
    (subst (λ entries. Contains entries x) (ap (λ (a : Assignment). a.literals) c.self.view_is) there.0, there.1)
