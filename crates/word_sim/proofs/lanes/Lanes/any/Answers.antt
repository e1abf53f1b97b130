use Rattle.word_sim.proofs.Digits.{some_lane}
use Rattle.word_sim.proofs.lanes.Lanes.any.Goals as goal

pub returns : goal.returns
returns c = rw (← c.self.view_is) (some_lane c.self.inside.words c.self.invariant)
