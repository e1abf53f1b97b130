use Rattle.std.proofs.Common.{◌≡◌, ◌≤◌, ◌*◌, ◌∙◌, [], length, refl, sym, ap, arith, subst}
use Rattle.std.specs.Prelude.{vec_capacity}
use Rattle.net_model.specs.declared.fault.Fault.TheVariants.{Free}
use Rattle.net_model.specs.Circuit.{line_count}
use Rattle.net_model.proofs.Orders.{order_count}
use Rattle.net_model.proofs.SetSoFar.{fits_from}
use Rattle.pair_sets.specs.CubeState.{ArePairSets}
use Rattle.pair_sets.specs.Tally.{HasTallyPlaces}
use Rattle.pair_sets.proofs.BlankLemmas.{blank_shown, blank_tally, lowest_level}
use Rattle.net_model.proofs.ScopeLaws.{none_split}
use Rattle.pair_sets.proofs.sim.PairSim.free.Goals as goal

pub new-requires : goal.new-requires
new-requires c =
    let circuit = c.args.circuit.now in
    omega (arith, order_count circuit (fits_from circuit c.order.ensures.circuit) c.order.result.now c.order.ensures.order, c.order.ensures.circuit.small)

pub invariant_of-result : goal.invariant_of-result
invariant_of-result c =
    let circuit = c.args.circuit.now in
    let base : ArePairSets circuit Free Free [] c.in_ok-base.base.items = c.in_ok-base.ensures in
    let trail = c.in_ok-trail.trail in
    let items : trail.sets.items ≡ c.in_ok-base.base.items = c.in_ok-trail.ensures.sets ∙ c.as_slice.ensures.value in
    let right : ArePairSets circuit Free Free [] trail.sets.items = subst (ArePairSets circuit Free Free []) (sym items) base in
    let room : 4 * line_count circuit ≤ vec_capacity trail.changes = omega (arith, c.in_ok-trail.ensures.room, c.lines-lines.ensures.value) in
    record {
      circuit = c.order.ensures.circuit;
      none_waits = c.in_ok-new.ensures.none;
      queue_room = c.in_ok-new.ensures.room ∙ order_count circuit (fits_from circuit c.order.ensures.circuit) c.order.result.now c.order.ensures.order;
      levels = lowest_level circuit Free Free (vec_capacity trail.changes) c.in_ok-with_capacity.field-0.items trail.changes.items trail.sets.items
          c.in_ok-with_capacity.ensures.items c.in_ok-trail.ensures.changes right room;
      within = λ k d h. absurd (omega (arith, h, ap length c.in_ok-trail.ensures.changes));
      trail_room = room;
      levels_room = omega (arith, c.in_ok-with_capacity.ensures.exact, c.sources.ensures.value);
      base = base;
      cone = record {
        whole = c.in_ok-none.ensures.whole ∙ c.lines-lines.ensures.value;
        each = λ line h. c.in_ok-none.ensures.none line ∙ sym (none_split circuit Free Free line refl refl);
      };
      tally = blank_tally circuit c.in_ok-none-2.field-0 c.in_ok-none-2.ensures.blank (subst (λ n. HasTallyPlaces n c.in_ok-none-2.field-0) (ap length c.positions.ensures.value) c.in_ok-none-2.ensures.places);
      shown = blank_shown circuit c.in_ok-none-2.field-0 trail.sets.items c.in_ok-none-2.ensures.blank;
    }
