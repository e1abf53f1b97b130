use Rattle.fault_list.proofs.Marks.{adds_more}
use Rattle.bridging_faults.proofs.cones.mark_lines.Goals as goal

pub loop-line-preserved : goal.loop-line-preserved
loop-line-preserved c = adds_more c.args.lines.now c.loop-line.line-index c.args.marks.now.items c.loop-line.marks.items c.loop-line-test.true (c.requires c.loop-line.line-index 0 c.loop-line-test.true) c.loop-line.invariant
