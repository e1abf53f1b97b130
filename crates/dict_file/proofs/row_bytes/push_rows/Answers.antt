use Rattle.std.proofs.Common.{◌∙◌, ◌++◌, Bool, List, [], sym, ap, arith}
use Rattle.std.proofs.lemmas.List.{append-nil, take_all}
use Rattle.dict_file.specs.Packing.{packed_row}
use Rattle.dict_file.specs.Spelling.{packed_rows}
use Rattle.dict_file.proofs.PushLemmas.{append_more}
use Rattle.dict_file.proofs.row_bytes.push_rows.Goals as goal

pub loop-row-init : goal.loop-row-init
loop-row-init c = sym (append-nil c.args.bytes.now.items)

pub loop-row-preserved : goal.loop-row-preserved
loop-row-preserved c =
    let l = c.loop-row in
    c.in_ok-push_row.ensures ∙ append_more packed_row c.args.bytes.now.items l.bytes.items c.args.rows.now l.row [] (omega (arith, c.rows-row-end.ensures, c.loop-row-test.true)) l.invariant

pub returns : goal.returns
returns c =
    let l = c.loop-row in
    l.invariant ∙ ap (λ (rows : List (List Bool)). c.args.bytes.now.items ++ packed_rows rows) (take_all l.row c.args.rows.now (omega (arith, c.rows-row-end.ensures, c.loop-row-test.false)))
