use Rattle.std.proofs.Common.{◌∙◌, [], get_or, take, sym, arith, subst, inl, inr}
use Rattle.std.specs.Prelude.{Contains}
use Rattle.std.proofs.lemmas.List.{take_more, take_all}
use Rattle.std.proofs.lemmas.List.Elements.{Contains-get_or, Contains-push_cases}
use Rattle.net_model.proofs.Elements.{true_false}
use Rattle.event_queue.specs.Pending.{is_pending}
use Rattle.fault_sim.specs.Rows.{AreFalseBut}
use Rattle.fault_sim.proofs.ShownLemmas.{unmarked_false}
use Rattle.fault_sim.proofs.events.mark_positions.Goals as goal

pub wake-requires : goal.wake-requires
wake-requires c = λ k d h.
    let items = c.listed-line-items.result.now in
    let line = get_or items c.loop-line.line-index 0 in
    let users = c.showing.result.now in
    let below = c.wiring-wiring.ensures.showing.below line (get_or users k d) (subst (λ us. Contains us (get_or users k d)) c.showing.ensures (Contains-get_or users k d h)) in
    omega (arith, below, c.requires.room, c.loop-line.invariant.room)

pub loop-line-preserved : goal.loop-line-preserved
loop-line-preserved c =
    let showing = c.wiring-wiring.result.now.showing in
    let items = c.listed-line-items.result.now in
    let i = c.loop-line.line-index in
    let line = get_or items i 0 in
    record {
      room = c.wake.ensures.room ∙ c.loop-line.invariant.room;
      within = λ position t. elim (c.wake.ensures.only position t) [
        | inl was ↦ c.loop-line.invariant.within position was
        | inr woken ↦ c.wiring-wiring.ensures.showing.below line position (subst (λ us. Contains us position) c.showing.ensures woken)
      ];
      marked = λ l position has uses. elim (Contains-push_cases (take i items) line l (subst (λ ls. Contains ls l) (take_more items i 0 c.loop-line-test.true) has)) [
        | inl earlier ↦ c.wake.ensures.kept position (c.loop-line.invariant.marked l position earlier uses)
        | inr same ↦ c.wake.ensures.here position (subst (λ us. Contains us position) (sym c.showing.ensures) (subst (λ k. Contains (get_or showing k []) position) (sym same) uses))
      ];
    }

pub returns-clause-others : goal.returns-clause-others
returns-clause-others c = λ position h idle.
    let items = c.listed-line-items.result.now in
    let marks = c.loop-line.marks in
    let others : AreFalseBut items c.args.lines.now.rows = subst (λ ls. AreFalseBut ls c.args.lines.now.rows) (sym c.listed-line-items.ensures.value) c.listed-line-items.ensures.others in
    unmarked_false c.args.circuit.now c.wiring-wiring.result.now c.wiring-wiring.ensures c.args.lines.now.rows items c.requires.width others position h
    (λ line has uses. true_false (is_pending marks position) (c.loop-line.invariant.marked line position (subst (λ ls. Contains ls line) (sym (take_all c.loop-line.line-index items c.loop-line-test.false)) has) uses) idle)
