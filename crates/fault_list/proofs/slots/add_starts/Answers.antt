use Rattle.std.proofs.Common.{◌≡◌, ◌∙◌, ◌+◌, ◌++◌, [], ◌∷◌, map, arith, ap, sym}
use Rattle.std.specs.List.{range_with_len}
use Rattle.std.proofs.lemmas.List.FromFn.{map-range_with_len_more}
use Rattle.net_model.specs.Circuit.{line_count}
use Rattle.fault_list.specs.Slots.{site_row_start}
use Rattle.fault_list.proofs.Table.{row_start-more, row_start-few}
use Rattle.fault_list.proofs.slots.add_starts.Goals as goal

pub overflow_add-next : goal.overflow_add-next
overflow_add-next c =
    let circuit = c.args.circuit.now in
    omega (arith, c.pin_count.ensures, row_start-more circuit c.loop-line.line, row_start-few circuit c.lines-line-end.ensures.circuit (c.loop-line.line + 2) (omega (arith, c.lines-line-end.ensures.value)))

pub overflow_add-next-in-loop-line : goal.overflow_add-next-in-loop-line
overflow_add-next-in-loop-line c =
    let circuit = c.args.circuit.now in
    omega (arith, c.loop-line.invariant.next, c.pin_count.ensures, row_start-more circuit c.loop-line.line, row_start-few circuit c.lines-line-end.ensures.circuit (c.loop-line.line + 2) (omega (arith, c.lines-line-end.ensures.value)))

pub loop-line-preserved : goal.loop-line-preserved
loop-line-preserved c =
    let circuit = c.args.circuit.now in
    let line = c.loop-line.line in
    let two : line + 1 + 1 ≡ line + 2 = omega arith in
    let three : line + 1 + 2 ≡ line + 2 + 1 = omega arith in
    let next : c.loop-line.next + (1 + c.pin_count.result) ≡ site_row_start circuit (line + 2) = omega (arith, c.loop-line.invariant.next, c.pin_count.ensures, row_start-more circuit line) in
    record {
      next = rw two next;
      starts =
          c.in_ok-push-3.ensures.items
          ∙ ((λ i. c.loop-line.invariant.starts i ++ next i ∷ [])
          ∙ (sym (map-range_with_len_more (site_row_start circuit) 0 (line + 2) (line + 2) (omega arith))
          ∙ ap (λ n. map (site_row_start circuit) (range_with_len 0 n)) (sym three)));
    }

pub returns : goal.returns
returns c =
    let circuit = c.args.circuit.now in
    let all : c.loop-line.line ≡ line_count circuit = omega (arith, c.lines-line-end.ensures.value) in
    c.loop-line.invariant.starts ∙ ap (λ n. map (site_row_start circuit) (range_with_len 0 (n + 2))) all
