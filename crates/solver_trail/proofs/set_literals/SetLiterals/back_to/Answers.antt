use Rattle.std.proofs.Common.{◌≡◌, ◌∙◌, ◌<◌, ◌≤◌, ◌-◌, length, take, sym, ap, subst, arith}
use Rattle.std.specs.Prelude.{All, drop, false}
use Rattle.std.specs.List.{HoldsAt}
use Rattle.solver_trail.specs.declared.set_literals.SetLiteral.{SetLiteral}
use Rattle.solver_trail.specs.Assignment.{Assignment, AreInLevels}
use Rattle.solver_trail.specs.StackFields.{ArePlaced}
use Rattle.solver_trail.proofs.Placed.{placed_trail}
use Rattle.solver_trail.proofs.BackTo.{IsBackTo, back_to_start, back_to_step, back_to_end, levels_below}
use Rattle.solver_trail.proofs.set_literals.SetLiterals.back_to.Goals as goal
use Rattle.solver_trail.proofs.set_literals.SetLiterals.back_to.Goals.{After-ends_above}

pub loop-self-init : goal.loop-self-init
loop-self-init c = record {
  placed = c.self.invariant.placed;
  variables = λ _. c.self.inside.variables;
  back = back_to_start c.self.inside.entries.items c.args.level c.self.inside.level c.self.invariant.levels (omega (arith, c.requires, ap (λ (a : Assignment). a.level) c.self.view_is));
  literal_room = c.self.invariant.literal_room;
  entry_room = c.self.invariant.entry_room;
}

pub loop-self-preserved : goal.loop-self-preserved
loop-self-preserved c =
    let entries = c.loop-self.self-inside.entries.items in
    let above = subst (λ es. (0 < length es) × HoldsAt (λ (s : SetLiteral). c.args.level < s.level) es (length es - 1)) c.as_slice.ensures.value (c.ends_above.ensures.above c.loop-self-test.true) in
    let size : length c.loop-self.self-inside.slots.items - 1 ≡ c.loop-self.self-inside.variables = omega (arith, c.loop-self.invariant.placed.table) in
    record {
      placed = subst (λ n. ArePlaced n c.unset_last.new.literals.items c.unset_last.new.entries.items c.unset_last.new.slots.items) size c.unset_last.ensures.placed;
      variables = c.loop-self.invariant.variables;
      back = subst (IsBackTo c.self.inside.entries.items c.args.level) (sym c.unset_last.ensures.cut) (back_to_step c.loop-self.invariant.back above.0 above.1);
      literal_room = omega (arith, c.loop-self.invariant.literal_room, c.unset_last.ensures.literal_room);
      entry_room = omega (arith, c.loop-self.invariant.entry_room, c.unset_last.ensures.entry_room);
    }

levels : (c : After-ends_above) → c.ends_above.result ≡ false → AreInLevels 0 c.loop-self.self-inside.entries.items c.args.level
levels c not =
    let entries = c.loop-self.self-inside.entries.items in
    let last = subst (λ es. 0 < length es → HoldsAt (λ (s : SetLiteral). s.level ≤ c.args.level) es (length es - 1)) c.as_slice.ensures.value (c.ends_above.ensures.not not) in
    back_to_end c.loop-self.invariant.back last

pub invariant_of-self : goal.invariant_of-self
invariant_of-self c = record {
  placed = c.loop-self.invariant.placed;
  levels = levels (goal.at.invariant_of-self c).After-ends_above c.loop-self-test.false;
  literal_room = c.loop-self.invariant.literal_room;
  entry_room = c.loop-self.invariant.entry_room;
}

pub returns-clause-cut : goal.returns-clause-cut
returns-clause-cut c =
    let back = c.loop-self.invariant.back in
    let entries = c.loop-self.self-inside.entries.items in
    let same = ap (λ (a : Assignment). a.literals) c.self.view_is in
    record {
      variables = c.loop-self.invariant.variables ∙ ap (λ (a : Assignment). a.variables) c.self.view_is;
      present = λ _. c.args.level;
      prefix = back.prefix ∙ ap (take (length entries)) same;
      kept = levels_below entries c.args.level (levels (goal.at.returns-clause-cut c).After-ends_above c.loop-self-test.false);
      cut = subst (λ old. All (λ (s : SetLiteral). c.args.level < s.level) (drop (length entries) old)) same back.cut;
    }

pub returns-clause-trail : goal.returns-clause-trail
returns-clause-trail c = placed_trail c.loop-self.invariant.placed c.args.level (levels (goal.at.returns-clause-trail c).After-ends_above c.loop-self-test.false)
