use Rattle.std.proofs.Common.{◌≡◌, ◌∙◌, length, sym, ap, subst}
use Rattle.net_model.specs.Circuit.{Circuit, line_count}
use Rattle.pair_scope.specs.Listed.{IsBlank}
use Rattle.pair_scope.proofs.ListedLemmas.{free_split, free_reached, free_relevant}
use Rattle.pair_scope.proofs.scope.PairScope.new.Goals as goal

pub invariant_of-result : goal.invariant_of-result
invariant_of-result c =
    let places = c.in_ok-of.field-0 in
    let circuit = places.circuit.now in
    let same : c.args.circuit.now ≡ circuit = sym c.in_ok-of.ensures.circuit in
    let lines : c.lines-lines.result ≡ line_count circuit = c.lines-lines.ensures.value ∙ ap line_count same in
    let positions : length c.positions-positions.result.now ≡ length circuit.positions = ap length c.positions-positions.ensures.value ∙ ap (λ (k : Circuit). length k.positions) same in
    record {
      placed = c.in_ok-of.ensures.placed;
      first = tt;
      second = tt;
      split = free_split circuit places.lines.items c.in_ok-none.field-0 (subst (λ n. IsBlank n c.in_ok-none.field-0) lines c.in_ok-none.ensures);
      reached = free_reached circuit c.in_ok-none-2.field-0 (subst (λ n. IsBlank n c.in_ok-none-2.field-0) positions c.in_ok-none-2.ensures);
      relevant = free_relevant circuit c.in_ok-none-3.field-0 (subst (λ n. IsBlank n c.in_ok-none-3.field-0) lines c.in_ok-none-3.ensures);
      waiting_room = c.in_ok-new.ensures.room ∙ lines;
      none_waits = c.in_ok-new.ensures.none;
      found_room = c.in_ok-new-2.ensures.room ∙ lines;
      none_found = c.in_ok-new-2.ensures.none;
      positions_room = c.in_ok-new-3.ensures.room ∙ positions;
      no_position_waits = c.in_ok-new-3.ensures.none;
    }
