use Rattle.std.proofs.Common.{◌≡◌, ◌<◌, ◌-◌, ◌∙◌, length, take, refl, ap, arith, subst}
use Rattle.std.specs.Prelude.{All, Some}
use Rattle.std.proofs.lemmas.List.{length-set, append-nil}
use Rattle.std.proofs.lemmas.List.Elements.{All-pop}
use Rattle.fault_sim.specs.Rows.{Rows, AreFalseBut}
use Rattle.fault_sim.proofs.RowsLemmas.{within_set, false_but_less}
use Rattle.fault_sim.proofs.rows.Rows.clear.Goals as goal

pub loop-at-preserved : goal.loop-at-preserved
loop-at-preserved c =
    let was = c.loop-at.invariant in
    let rows = c.loop-at.self-inside.rows.items in
    let rest = c.pop.new.self.items in
    let at = c.in-Some.at in
    let row = c.all.result in
    record {
      count = length-set rows at row ∙ was.count;
      room = c.pop.ensures.capacity ∙ was.room;
      within = within_set rows at row rest (All-pop (λ k. k < length rows) c.loop-at.self-inside.listed.items rest c.pop.result c.pop.ensures.items was.within).0;
      others = false_but_less rows at row rest (subst (λ l. AreFalseBut l rows) c.in-Some.ensures.items was.others) c.all.ensures;
    }

pub loop-at-init : goal.loop-at-init
loop-at-init c = record { count = refl; room = refl; within = c.self.invariant.within; others = c.self.invariant.others }

pub invariant_of-self : goal.invariant_of-self
invariant_of-self c =
    let was = c.loop-at.invariant in
    let rows = c.loop-at.self-inside.rows.items in
    let rest = c.pop.new.self.items in
    let same : c.loop-at.self-inside.listed.items ≡ rest = c.in_default.ensures.items ∙ append-nil rest in
    record { within = subst (All (λ k. k < length rows)) same was.within; others = subst (λ l. AreFalseBut l rows) same was.others }

pub index_mut-requires : goal.index_mut-requires
index_mut-requires c =
    let rows = c.loop-at.self-inside.rows.items in
    omega (arith, (All-pop (λ k. k < length rows) c.loop-at.self-inside.listed.items c.pop.new.self.items (Some c.in-Some.at) c.in-Some.ensures.items c.loop-at.invariant.within).1)

pub loop-at-smaller : goal.loop-at-smaller
loop-at-smaller c = omega (arith, c.in-Some.ensures.cases)

pub returns-clause-count : goal.returns-clause-count
returns-clause-count c = c.loop-at.invariant.count ∙ ap (λ (r : Rows). length r.rows) c.self.view_is

pub returns-clause-room : goal.returns-clause-room
returns-clause-room c = c.pop.ensures.capacity ∙ c.loop-at.invariant.room ∙ ap (λ (r : Rows). r.room) c.self.view_is

pub returns-clause-listed : goal.returns-clause-listed
returns-clause-listed c = c.in_default.ensures.rest ∙ ap (λ n. take (n - 1) c.loop-at.self-inside.listed.items) c.in_default.ensures.cases.0

pub returns-clause-clear : goal.returns-clause-clear
returns-clause-clear c =
    let none = c.in_default.ensures.items ∙ append-nil c.pop.new.self.items ∙ returns-clause-listed c in
    subst (λ l. AreFalseBut l c.loop-at.self-inside.rows.items) none c.loop-at.invariant.others
