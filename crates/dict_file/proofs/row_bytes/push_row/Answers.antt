use Rattle.std.proofs.Common.{◌≡◌, ◌∙◌, ◌*◌, ◌++◌, [], length, map, subst, arith}
use Rattle.std.specs.List.{range_with_len}
use Rattle.net_model.specs.Rows.{row_at}
use Rattle.dict_file.specs.Packing.{byte_count, byte_of}
use Rattle.dict_file.proofs.PushLemmas.{map_one_more}
use Rattle.dict_file.proofs.row_bytes.push_row.Goals as goal

pub loop-at-preserved : goal.loop-at-preserved
loop-at-preserved c =
    let row = row_at c.args.rows.now c.args.row in
    let byte = c.packed_byte.ensures row c.row_words-words.ensures.packed in
    let pushed = rw byte at c.in_ok-push.ensures.items in
    pushed ∙ map_one_more (λ k. byte_of row (8 * k)) c.args.bytes.now.items c.loop-at.bytes.items c.loop-at.at c.loop-at.invariant

pub returns : goal.returns
unfolding byte_count
returns c =
    let row = row_at c.args.rows.now c.args.row in
    let all : c.loop-at.at ≡ byte_count (length row) = omega (arith, c.width.ensures.each c.args.row [] c.requires, c.div_ceil-at-end.ensures, c.loop-at-test.false, c.loop-at.auto.at-end) in
    subst (λ n. c.loop-at.bytes.items ≡ c.args.bytes.now.items ++ map (λ k. byte_of row (8 * k)) (range_with_len 0 n)) all c.loop-at.invariant
