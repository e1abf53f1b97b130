use Rattle.std.specs.Prelude.{◌||◌, bit_or}
use Rattle.std.proofs.lemmas.Nat.{or_lt}
use Rattle.net_model.proofs.SingleWords.{digit_or}
use Rattle.word_sim.proofs.Digits.{both_lanes, both_words}
use Rattle.word_sim.proofs.lanes.Lanes.or.Goals as goal

pub invariant_of-result : goal.invariant_of-result
invariant_of-result c = both_words bit_or (or_lt 64) c.self.inside.words c.other.inside.words c.self.invariant c.other.invariant

pub returns : goal.returns
returns c = rw (← c.self.view_is, ← c.other.view_is) (both_lanes bit_or (λ x y. x || y) digit_or c.self.inside.words c.other.inside.words c.self.invariant c.other.invariant)
