use Rattle.std.proofs.Common.{◌≡◌, ◌∙◌, [], None, refl, sym, subst, arith}
use Rattle.std.specs.Prelude.{Contains, set}
use Rattle.std.proofs.lemmas.List.{length-set, nil_from_length}
use Rattle.net_model.proofs.Elements.{none_in}
use Rattle.refute_check.proofs.AssignmentLemmas.{IsListed, listed_from, last_within, one_less, none_true, empty_assignment}
use Rattle.refute_check.proofs.assignment.Assignment.clear.Goals as goal

pub loop-lit-init : goal.loop-lit-init
loop-lit-init c = record { listed = listed_from c.args.self.now c.requires; size = refl; room = c.requires.room }

pub index_mut-requires : goal.index_mut-requires
index_mut-requires c =
    let inside = last_within c.loop-lit.self.values.items c.pop.new.self.items c.loop-lit.self.trail.items c.in-Some.lit c.in-Some.ensures.items c.loop-lit.invariant.listed in
    omega (arith, inside, c.variable.ensures.value, c.loop-lit.self.values.ok.0)

pub loop-lit-preserved : goal.loop-lit-preserved
loop-lit-preserved c =
    let values = c.loop-lit.self.values.items in
    record {
      listed = subst (λ n. IsListed (set values n None) c.pop.new.self.items) (sym c.variable.ensures.value) (one_less values c.pop.new.self.items c.loop-lit.self.trail.items c.in-Some.lit c.in-Some.ensures.items c.loop-lit.invariant.listed);
      size = length-set values c.variable.result None ∙ c.loop-lit.invariant.size;
      room = omega (arith, c.loop-lit.invariant.room, c.in-Some.ensures.capacity);
    }

pub returns-clause-empty : goal.returns-clause-empty
returns-clause-empty c =
    let none : c.loop-lit.self.trail.items ≡ [] = nil_from_length c.loop-lit.self.trail.items (omega (arith, c.in_default.ensures.cases, c.loop-lit.self.trail.ok.0)) in
    none_true c.loop-lit.self.values.items (λ l t. none_in l (subst (λ xs. Contains xs l) none (c.loop-lit.invariant.listed.listed l t)))

pub returns-clause-assignment : goal.returns-clause-assignment
returns-clause-assignment c =
    let none : c.pop.new.self.items ≡ [] = nil_from_length c.pop.new.self.items (omega (arith, c.in_default.ensures.cases, c.pop.new.self.ok.0)) in
    empty_assignment (record { values = c.loop-lit.self.values; trail = c.pop.new.self }) (returns-clause-empty c) none (omega (arith, c.loop-lit.invariant.size, c.loop-lit.invariant.room, c.in_default.ensures.capacity))
