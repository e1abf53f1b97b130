use Rattle.std.proofs.Common.{◌∙◌, ◌<◌, ap, length, [], arith}
use Rattle.net_model.proofs.RowLemmas.{length-rows_of, row_ends, is_packed, same_length}
use Rattle.std.proofs.lemmas.List.{get_or_default}
use Rattle.net_model.proofs.rows.AnswerRows.row_words.Goals as goal

pub overflow_mul-start : goal.overflow_mul-start
overflow_mul-start c =
    let i = c.self.inside in
    let row : c.args.row < i.rows = omega (arith, c.requires, ap length c.self.view_is, length-rows_of i.stride i.width i.rows i.words.items) in
    omega (arith, row_ends _ _ _ i.words.items c.args.row c.self.invariant row, i.words.ok.0, i.words.small)

pub overflow_add-start : goal.overflow_add-start
overflow_add-start c =
    let i = c.self.inside in
    let row : c.args.row < i.rows = omega (arith, c.requires, ap length c.self.view_is, length-rows_of i.stride i.width i.rows i.words.items) in
    omega (arith, row_ends _ _ _ i.words.items c.args.row c.self.invariant row, i.words.ok.0, i.words.small)

pub part-requires-clause-end : goal.part-requires-clause-end
part-requires-clause-end c =
    let i = c.self.inside in
    let row : c.args.row < i.rows = omega (arith, c.requires, ap length c.self.view_is, length-rows_of i.stride i.width i.rows i.words.items) in
    omega (arith, row_ends _ _ _ i.words.items c.args.row c.self.invariant row, ap length c.as_slice.ensures.value)

pub returns-clause-packed : goal.returns-clause-packed
returns-clause-packed c =
    let i = c.self.inside in
    let row : c.args.row < i.rows = omega (arith, c.requires, ap length c.self.view_is, length-rows_of i.stride i.width i.rows i.words.items) in
    rw (c.part.ensures, c.as_slice.ensures.value, ← c.self.view_is) (is_packed i.stride i.width i.rows i.words.items c.args.row c.self.invariant row)

pub returns-clause-one_width : goal.returns-clause-one_width
returns-clause-one_width c k d h =
    let i = c.self.inside in
    ap length (get_or_default c.args.self.now k d [] h)
    ∙ (same_length i.stride i.width i.rows i.words.items c.args.self.now k c.args.row c.self.view_is h c.requires)
