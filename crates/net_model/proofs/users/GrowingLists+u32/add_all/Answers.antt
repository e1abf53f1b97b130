use Rattle.net_model.proofs.UserLemmas.{adds_none, adds_more}
use Rattle.net_model.proofs.users.GrowingLists+u32.add_all.Goals as goal

pub loop-line-init : goal.loop-line-init
loop-line-init c = adds_none c.args.user c.args.self.now

pub loop-line-preserved : goal.loop-line-preserved
loop-line-preserved c =
    rw c.in_ok-add.ensures.ok
    (adds_more c.args.user c.args.lines.now c.loop-line.line-index c.args.self.now c.loop-line.self c.loop-line-test.true (c.requires c.loop-line.line-index 0 c.loop-line-test.true) c.loop-line.invariant)
