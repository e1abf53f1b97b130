use Rattle.std.proofs.Common.{length, map, [], arith}
use Rattle.std.specs.List.{range_with_len}
use Rattle.std.proofs.lemmas.List.FromFn.{length-map-range_with_len, get_or-map-range_with_len}
use Rattle.dict_rows.specs.Entries.{same_diff_entry}
use Rattle.dict_rows.proofs.RowLemmas.{zeros_begun, rows_more, rows_all}
use Rattle.dict_rows.proofs.projecting.differences.Goals as goal

pub loop-number-init : goal.loop-number-init
loop-number-init c =
    let t = c.args.table.now in
    zeros_begun c.numbers-numbers.result c.patterns-patterns.result t.numbers (length t.rows) (same_diff_entry t.rows c.args.baselines.now) c.in_ok-rows.ensures c.numbers-numbers.ensures.value c.patterns-patterns.ensures.value

pub loop-number-preserved : goal.loop-number-preserved
loop-number-preserved c = rows_more c.loop-number.invariant c.write_differences.ensures

pub returns-clause-entries : goal.returns-clause-entries
returns-clause-entries c =
    let t = c.args.table.now in
    let entry = same_diff_entry t.rows c.args.baselines.now in
    rows_all (map entry (range_with_len 0 t.numbers)) c.loop-number.invariant (omega (arith, c.numbers-numbers.ensures.value)) (length-map-range_with_len entry 0 t.numbers)
    (λ number h. get_or-map-range_with_len entry 0 t.numbers number number [] h (omega arith))

pub returns-clause-shape : goal.returns-clause-shape
returns-clause-shape c = c.loop-number.invariant.are
