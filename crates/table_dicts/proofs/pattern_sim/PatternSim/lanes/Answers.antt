use Rattle.table_dicts.proofs.pattern_sim.PatternSim.lanes.Goals as goal

pub returns-in-Bits : goal.returns-in-Bits
returns-in-Bits c = rw c.in-Bits.is c.shown.ensures
