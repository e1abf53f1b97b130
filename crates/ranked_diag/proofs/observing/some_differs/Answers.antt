use Rattle.std.proofs.lemmas.List.{get_or_default}
use Rattle.net_model.specs.Rows.{row_at}
use Rattle.ranked_diag.proofs.ObservingLemmas.{some-differ, none-differs_more}
use Rattle.ranked_diag.proofs.observing.some_differs.Goals as goal

pub returns-then-is_other : goal.returns-then-is_other
returns-then-is_other c =
    let seen = c.args.seen.now in
    some-differ seen (row_at c.args.rows.now c.args.row) c.loop-at.at _ _ c.requires.wide c.loop-at-test.true (get_or_default seen c.loop-at.at _ _ c.loop-at-test.true) c.get.ensures c.if-is_other.ensures

pub loop-at-preserved : goal.loop-at-preserved
loop-at-preserved c =
    let seen = c.args.seen.now in
    none-differs_more seen (row_at c.args.rows.now c.args.row) c.loop-at.at _ _ c.requires.wide c.loop-at-test.true (get_or_default seen c.loop-at.at _ _ c.loop-at-test.true) c.get.ensures c.if-is_other.ensures c.loop-at.invariant
