use Rattle.std.proofs.Common.{◌<◌, length, refl, sym, ap, subst, arith}
use Rattle.std.proofs.lemmas.Result.{err_from_is_err_and}
use Rattle.dict_rows.specs.Grouped.{AreDifferent, IsFirstRepeat}
use Rattle.dict_file.specs.Parts.{each}
use Rattle.dict_file.specs.Reading.{new_row_part}
use Rattle.dict_file.proofs.FieldLemmas.{length-rows_of}
use Rattle.dict_file.proofs.PlaceLemmas.{start_below, new_rows_found, new_rows_refused, repeat_refused, all_read}
use Rattle.dict_file.proofs.row_bytes.read_new_rows.Goals as goal

pub refuse_repeat-requires-clause-few : goal.refuse_repeat-requires-clause-few
refuse_repeat-requires-clause-few c =
    omega (arith, ap length c.in_ok-read.ensures, length-rows_of c.args.bytes.now c.args.rows c.right-right.result, c.right-right.ensures.within, c.requires.few)

pub refuse_repeat-requires-clause-small : goal.refuse_repeat-requires-clause-small
refuse_repeat-requires-clause-small c = λ row h.
    let low : row < c.right-right.result = omega (arith, h, ap length c.in_ok-read.ensures, length-rows_of c.args.bytes.now c.args.rows c.right-right.result) in
    omega (arith, start_below c.args.rows row c.right-right.result low, c.right-right.ensures.inside, c.requires.short)

pub returns-in_err-refuse_repeat-clause-refused : goal.returns-in_err-refuse_repeat-clause-refused
returns-in_err-refuse_repeat-clause-refused c =
    let p = err_from_is_err_and c.from_residual-in_err-refuse_repeat.result c.from_residual-in_err-refuse_repeat.ensures.1 in
    let rows = c.args.rows in
    rw (p.1, p.2) (λ ne.
    let told = c.in_err-refuse_repeat.ensures.repeat ne in
    let repeats = subst (λ read. IsFirstRepeat read told.row) c.in_ok-read.ensures told.repeats in
    subst (each rows.count (new_row_part c.args.bytes.now rows)).Refused (sym told.fault_is)
    (repeat_refused told.row _ c.right-right.ensures repeats refl))

pub returns-then-right-rows-clause-refused : goal.returns-then-right-rows-clause-refused
returns-then-right-rows-clause-refused c =
    let different = subst AreDifferent c.in_ok-read.ensures c.in_ok-refuse_repeat.ensures.different in
    λ _. new_rows_refused c.fault.result c.right-right.ensures c.if-right-rows.true different c.fault.ensures

pub returns-clause-read : goal.returns-clause-read
returns-clause-read c =
    let different = subst AreDifferent c.in_ok-read.ensures c.in_ok-refuse_repeat.ensures.different in
    all_read _ c.right-right.ensures c.if-right-rows.false (new_rows_found c.right-right.ensures c.if-right-rows.false different) c.in_ok-read.ensures c.start-end.ensures
