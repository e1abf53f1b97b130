use Rattle.std.proofs.Common.{◌∙◌, arith}
use Rattle.std.proofs.lemmas.List.{get_or_default}
use Rattle.net_model.specs.Rows.{row_at}
use Rattle.ranked_diag.proofs.CountLemmas.{count-more, count-within}
use Rattle.ranked_diag.proofs.seen_words.SeenWords.count.Goals as goal

pub overflow_add-count : goal.overflow_add-count
overflow_add-count c =
    let row = row_at c.args.rows.now c.args.row in
    let items = c.deref-seen-items.result.now in
    let within =
    count-within row c.row_words-bits.result.now c.row_words-bits.ensures.packed items c.args.self.now (c.deref-seen-items.ensures.value ∙ c.self.view_is) c.loop-seen.seen-index c.loop-seen.count c.mismatches-count.result _ c.loop-seen.invariant
    c.loop-seen-test.true (get_or_default items c.loop-seen.seen-index _ _ c.loop-seen-test.true) c.mismatches-count.ensures in
    omega (arith, within, c.requires.before.few row, c.requires.wide)

pub loop-seen-preserved : goal.loop-seen-preserved
loop-seen-preserved c =
    let items = c.deref-seen-items.result.now in
    count-more (row_at c.args.rows.now c.args.row) c.row_words-bits.result.now c.row_words-bits.ensures.packed items c.args.self.now (c.deref-seen-items.ensures.value ∙ c.self.view_is) c.loop-seen.seen-index c.loop-seen.count c.mismatches-count.result _
    c.loop-seen.invariant c.loop-seen-test.true (get_or_default items c.loop-seen.seen-index _ _ c.loop-seen-test.true) c.mismatches-count.ensures
