use Rattle.std.proofs.Common.{◌≡◌, ◌∙◌, [], ◌∷◌, ◌++◌, length, get_or, None, Some, sym, ap, subst, arith}
use Rattle.std.specs.Prelude.{set, All, ◌≢◌}
use Rattle.solver_trail.specs.declared.set_literals.SetLiteral.{SetLiteral}
use Rattle.solver_trail.specs.Assignment.{Assignment, FollowsLevel, AreInLevels}
use Rattle.solver_trail.specs.StackFields.{ArePlaced, literal_slot}
use Rattle.solver_trail.proofs.Held.{length-literals_of}
use Rattle.solver_trail.proofs.Levels.{AreLevels-push}
use Rattle.solver_trail.proofs.Placed.{unset_slot, length_le, placed_push, placed_trail}
use Rattle.solver_trail.proofs.set_literals.SetLiterals.put.Goals as goal
use Rattle.solver_trail.proofs.set_literals.SetLiterals.put.Goals.{After-push_reserved-2}

pub overflow_cast-len : goal.overflow_cast-len
overflow_cast-len c =
    let i = c.self.inside in
    omega (arith, length_le c.self.invariant.placed, i.entries.ok.0)

pub push_reserved-requires : goal.push_reserved-requires
push_reserved-requires c =
    let i = c.self.inside in
    omega (arith, length_le c.self.invariant.placed, ap length c.self.invariant.placed.same, length-literals_of i.entries.items, i.literals.ok.0)

pub push_reserved-requires-2 : goal.push_reserved-requires-2
push_reserved-requires-2 c =
    let i = c.self.inside in
    omega (arith, length_le c.self.invariant.placed, i.entries.ok.0)

-- the slot of the literal's variable was open
free : (c : After-push_reserved-2) → get_or c.self.inside.slots.items c.args.lit.variable None ≡ None
free c =
    let i = c.self.inside in
    unset_slot c.self.invariant.placed c.args.lit.variable
    (subst (λ entries. All (λ (s : SetLiteral). s.literal.variable ≢ c.args.lit.variable) entries) (sym (ap (λ (a : Assignment). a.literals) c.self.view_is)) c.requires.unset)

placed : (c : After-push_reserved-2)
    → ArePlaced c.self.inside.variables c.push_reserved.new.self.items c.push_reserved-2.new.self.items (set c.self.inside.slots.items c.variable.result (Some (record { positive = c.positive.result; place = c.len.result })))
placed c =
    let i = c.self.inside in
    let e : SetLiteral = record { literal = c.args.lit; level = c.args.level; reason = c.args.reason } in
    let variables = ap (λ (a : Assignment). a.variables) c.self.view_is in
    let pushed = placed_push c.self.invariant.placed e (free c) (omega (arith, c.variable.ensures.value, c.variable.ensures.from)) (omega (arith, variables, c.requires.inside)) in
    let slot : literal_slot c.args.lit (length i.entries.items) ≡ record { positive = c.positive.result; place = c.len.result } =
    λ j. record { positive = sym c.positive.ensures j; place = sym (c.len.ensures ∙ i.entries.ok.0) j } in
    rw (c.push_reserved.ensures.items, c.push_reserved-2.ensures.items)
    (subst (λ v. ArePlaced i.variables (i.literals.items ++ c.args.lit ∷ []) (i.entries.items ++ e ∷ []) (set i.slots.items v (Some (record { positive = c.positive.result; place = c.len.result })))) (sym c.variable.ensures.value)
    (subst (λ s. ArePlaced i.variables (i.literals.items ++ c.args.lit ∷ []) (i.entries.items ++ e ∷ []) (set i.slots.items c.args.lit.variable (Some s))) slot pushed))

levels : (c : After-push_reserved-2) → AreInLevels 0 c.push_reserved-2.new.self.items c.args.level
levels c =
    let i = c.self.inside in
    let e : SetLiteral = record { literal = c.args.lit; level = c.args.level; reason = c.args.reason } in
    let follows : FollowsLevel i.level e = subst (λ n. FollowsLevel n e) (sym (ap (λ (a : Assignment). a.level) c.self.view_is)) c.requires.level in
    rw c.push_reserved-2.ensures.items (AreLevels-push 0 i.entries.items i.level e c.self.invariant.levels follows)

pub invariant_of-self : goal.invariant_of-self
invariant_of-self c =
    let d = (goal.at.invariant_of-self c).After-push_reserved-2 in
    record {
      placed = placed d;
      levels = levels d;
      literal_room = omega (arith, c.push_reserved.ensures.capacity, c.self.invariant.literal_room);
      entry_room = omega (arith, c.push_reserved-2.ensures.capacity, c.self.invariant.entry_room);
    }

pub returns-clause-trail : goal.returns-clause-trail
returns-clause-trail c =
    let d = (goal.at.returns-clause-trail c).After-push_reserved-2 in
    placed_trail (placed d) c.args.level (levels d)
