use Rattle.scan_cut.proofs.cutting.cut_fault.Goals as goal

pub loop_of-requires-clause-walk : goal.loop_of-requires-clause-walk
loop_of-requires-clause-walk c = rw c.as_slice.ensures (c.requires.walk c.in-Loop.walk c.in-Loop.is)
