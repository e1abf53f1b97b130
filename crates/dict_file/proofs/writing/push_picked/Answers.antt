use Rattle.std.proofs.Common.{◌∙◌, ◌++◌, ℕ, List, map, sym, ap, arith}
use Rattle.std.proofs.lemmas.List.{append-nil, take_all}
use Rattle.net_model.specs.Rows.{row_at}
use Rattle.dict_file.specs.Packing.{packed_row}
use Rattle.dict_file.specs.Spelling.{packed_rows}
use Rattle.dict_file.proofs.PushLemmas.{pick_more}
use Rattle.dict_file.proofs.writing.push_picked.Goals as goal

pub loop-place-init : goal.loop-place-init
loop-place-init c = sym (append-nil c.args.bytes.now.items)

pub loop-place-preserved : goal.loop-place-preserved
loop-place-preserved c =
    let l = c.loop-place in
    c.in_ok-push_row.ensures ∙ pick_more packed_row (row_at c.args.rows.now) c.args.bytes.now.items l.bytes.items c.args.places.now l.place-index (omega arith) l.invariant

pub returns : goal.returns
returns c =
    let l = c.loop-place in
    l.invariant ∙ ap (λ (places : List ℕ). c.args.bytes.now.items ++ packed_rows (map (row_at c.args.rows.now) places)) (take_all l.place-index c.args.places.now (omega (arith, c.loop-place-test.false)))
