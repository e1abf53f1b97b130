use Rattle.std.proofs.Common.{List, sym, subst, arith}
use Rattle.net_model.specs.Rows.{row_at}
use Rattle.suspect_scores.specs.declared.choices.Choice.{Choice}
use Rattle.suspect_scores.proofs.ChosenLemmas.{IsChoosing, chosen_more, chosen_all, fewer_left}
use Rattle.suspect_scores.proofs.choosing.choose.Goals as goal

pub loop-best-smaller : goal.loop-best-smaller
loop-best-smaller c =
    let high = c.loop-best.invariant.is.some c.loop-best-test.true in
    fewer_left (row_at c.args.rows.now c.loop-best.best.place) c.loop-best.left c.leave.new.left c.leave.ensures (omega (arith, high.own, c.loop-best-test.true))

pub loop-best-preserved : goal.loop-best-preserved
loop-best-preserved c =
    let new = c.best_of-best-in-loop-best in
    subst (λ (items : List Choice). IsChoosing c.args.rows.now c.args.numbers.now c.args.lines c.leave.new.left new.result items) (sym c.in_ok-push.ensures.items)
    (chosen_more c.args.rows.now c.args.numbers.now c.args.lines c.loop-best.left c.leave.new.left c.loop-best.best new.result c.loop-best.choices.items c.loop-best.invariant c.loop-best-test.true c.leave.ensures new.ensures)

pub returns : goal.returns
returns c = chosen_all c.args.rows.now c.args.numbers.now c.args.lines c.loop-best.left c.loop-best.best c.loop-best.choices.items c.loop-best.invariant (omega (arith, c.loop-best-test.false))
