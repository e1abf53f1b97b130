use Rattle.word_sim.proofs.Digits.{not_words, not_lane}
use Rattle.word_sim.proofs.lanes.Lanes.not.Goals as goal

pub invariant_of-result : goal.invariant_of-result
invariant_of-result c = not_words c.self.inside.words c.self.invariant

pub returns : goal.returns
returns c = rw (← c.self.view_is) (not_lane c.self.inside.words c.self.invariant)
