use Rattle.std.proofs.Common.{◌<◌, ◌≤◌, ℕ, List, length, get_or, subst, ap, below_more, arith}
use Rattle.std.proofs.lemmas.List.{take_all}
use Rattle.dict_rows.specs.Grouped.{AreDifferent}
use Rattle.dict_rows.proofs.GroupLemmas.{repeats_first, different_to}
use Rattle.dict_rows.proofs.grouping.first_repeat.Goals as goal

pub loop-row-init : goal.loop-row-init
loop-row-init c = λ k h. absurd (omega (arith, h))

pub loop-row-preserved : goal.loop-row-preserved
loop-row-preserved c = below_more (λ k. k ≤ get_or c.as_slice-group-items.result.now k 0) c.loop-row.row c.loop-row.invariant c.if-group-row.false

pub returns-then-group-row : goal.returns-then-group-row
returns-then-group-row c =
    let are = c.in_ok-sorted.ensures in
    let same = c.as_slice-group-items.ensures in
    let row = c.loop-row.row in
    let inside : row < length c.args.rows.now = omega (arith, are.one_each, ap length same) in
    repeats_first c.args.rows.now c.in_ok-sorted.sorted.groups c.in_ok-sorted.sorted.firsts.items are row (omega (arith, inside))
    (subst (λ (gs : List ℕ). (k : ℕ) → k < row → k ≤ get_or gs k 0) same c.loop-row.invariant) inside (subst (λ (gs : List ℕ). get_or gs row 0 < row) same c.if-group-row.true)

pub returns : goal.returns
returns c =
    let are = c.in_ok-sorted.ensures in
    let same = c.as_slice-group-items.ensures in
    let rows = c.args.rows.now in
    let over : length rows ≤ c.loop-row.row = omega (arith, are.one_each, ap length same) in
    subst AreDifferent (take_all (length rows) rows (omega arith))
    (different_to rows c.in_ok-sorted.sorted.groups c.in_ok-sorted.sorted.firsts.items are (length rows) (omega arith)
    (λ k h. subst (λ (gs : List ℕ). k ≤ get_or gs k 0) same (c.loop-row.invariant k (omega (arith, h, over)))))
