use Rattle.std.specs.Prelude.{not, bit_xor, if◌then◌else◌}
use Rattle.std.proofs.lemmas.Nat.{xor_lt}
use Rattle.net_model.proofs.SingleWords.{digit_xor}
use Rattle.word_sim.proofs.Digits.{both_lanes, both_words}
use Rattle.word_sim.proofs.lanes.Lanes.xor.Goals as goal

pub invariant_of-result : goal.invariant_of-result
invariant_of-result c = both_words bit_xor (xor_lt 64) c.self.inside.words c.other.inside.words c.self.invariant c.other.invariant

pub returns : goal.returns
returns c = rw (← c.self.view_is, ← c.other.view_is) (both_lanes bit_xor (λ x y. if x then not y else y) digit_xor c.self.inside.words c.other.inside.words c.self.invariant c.other.invariant)
