use Rattle.std.proofs.Common.{ℕ, ◌<◌, ◌^◌, arith}
use Rattle.std.proofs.lemmas.Nat.{and_le_l}
use Rattle.std.specs.Prelude.{◌&&◌, bit_and}
use Rattle.net_model.proofs.SingleWords.{digit_and}
use Rattle.word_sim.proofs.Digits.{both_lanes, both_words}
use Rattle.word_sim.proofs.lanes.Lanes.and.Goals as goal

and_lt : (a b : ℕ) → a < 2 ^ 64 → b < 2 ^ 64 → bit_and a b < 2 ^ 64
and_lt a b h k = omega (arith, h, and_le_l a b)

pub invariant_of-result : goal.invariant_of-result
invariant_of-result c = both_words bit_and and_lt c.self.inside.words c.other.inside.words c.self.invariant c.other.invariant

pub returns : goal.returns
returns c = rw (← c.self.view_is, ← c.other.view_is) (both_lanes bit_and (λ x y. x && y) digit_and c.self.inside.words c.other.inside.words c.self.invariant c.other.invariant)
