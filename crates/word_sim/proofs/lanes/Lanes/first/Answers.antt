use Rattle.std.proofs.Common.{arith}
use Rattle.std.specs.Prelude.{nat_lt}
use Rattle.word_sim.proofs.Digits.{four_lanes, four_words}
use Rattle.word_sim.proofs.lanes.Lanes.first.Goals as goal

pub invariant_of-result : goal.invariant_of-result
invariant_of-result c = four_words c.first_word.result c.first_word-2.result c.first_word-3.result c.first_word-4.result (omega arith) (omega arith) (omega arith) (omega arith)

pub returns : goal.returns
returns c = four_lanes (λ lane. nat_lt lane c.args.live) c.first_word.result c.first_word-2.result c.first_word-3.result c.first_word-4.result
    c.first_word.ensures c.first_word-2.ensures c.first_word-3.ensures c.first_word-4.ensures
