use Rattle.std.proofs.Common.{take, subst}
use Rattle.std.proofs.lemmas.List.{take_all}
use Rattle.refute_check.specs.Reached.{IsReached}
use Rattle.refute_check.proofs.Resolvents.{next_begun}
use Rattle.refute_check.proofs.reached.Reached.begin.Goals as goal

pub loop-lit-preserved : goal.loop-lit-preserved
loop-lit-preserved c =
    let clause = c.args.clause.now in
    let i = c.loop-lit.lit-index in
    let lit = c.lit-item.result in
    subst (IsReached c.add.new.self) (next_begun clause clause lit lit i c.loop-lit-test.true c.lit-item.is) (c.in_ok-add.ensures (take i clause) c.loop-lit.invariant)

pub returns : goal.returns
returns c = subst (IsReached c.loop-lit.self) (take_all c.loop-lit.lit-index c.args.clause.now c.loop-lit-test.false) c.loop-lit.invariant
