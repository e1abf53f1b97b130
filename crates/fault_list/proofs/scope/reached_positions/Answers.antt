use Rattle.std.proofs.Common.{◌≡◌, ◌∙◌, ◌<◌, get_or, sym, ap}
use Rattle.std.specs.Prelude.{◌||◌, is_some}
use Rattle.net_model.specs.Answer.{bit_at}
use Rattle.net_model.specs.Circuit.{line_count}
use Rattle.net_model.specs.Fault.{stuck_position}
use Rattle.net_model.specs.Scope.{is_split, is_reached}
use Rattle.fault_list.proofs.Marks.{marks_more}
use Rattle.fault_list.proofs.scope.reached_positions.Goals as goal
use Rattle.fault_list.proofs.scope.reached_positions.Goals.{then-split-line, else-split-line}

pub loop-at-preserved : goal.loop-at-preserved
unfolding is_reached
loop-at-preserved c =
    let circuit = c.args.circuit.now in
    let f = c.args.f.now in
    let g = c.args.g.now in
    let at = c.loop-at.at in
    let line = get_or c.positions-line-items.result.now at 0 in
    let here : line ≡ get_or circuit.positions at 0 = ap (λ xs. get_or xs at 0) c.positions-line-items.ensures.value in
    let inside : line < line_count circuit = c.positions-line-items.ensures.inside at 0 c.loop-at-test.true in
    let split : bit_at c.args.split.now line ≡ is_split circuit f g (get_or circuit.positions at 0) = c.requires.each line inside ∙ ap (is_split circuit f g) here in
    let right : c.if-split-line.reached ≡ is_reached circuit f g at =
    elim c.if-split-line.branch [
      | then-split-line w ↦ w.reached-is ∙ (w.if-split-line.true ∙ ap (λ b. b || is_some (stuck_position f at) || is_some (stuck_position g at)) (sym w.if-split-line.true ∙ split))
      | else-split-line w ↦ w.reached-is ∙ (w.is_site-reached.ensures ∙ ap (λ b. b || is_some (stuck_position f at) || is_some (stuck_position g at)) (sym w.if-split-line.false ∙ split))
    ] in
    rw c.in_ok-push.ensures.items
    (marks_more (is_reached circuit f g) at c.loop-at.marks.items c.if-split-line.reached right c.loop-at.invariant)
