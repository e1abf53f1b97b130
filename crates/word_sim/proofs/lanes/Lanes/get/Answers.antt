use Rattle.std.proofs.Common.{◌/◌, ◌%◌, ◌∙◌, get_or, sym, ap, arith}
use Rattle.std.specs.Prelude.{◌==◌}
use Rattle.std.proofs.lemmas.Nat.Bits.{shr_and_one}
use Rattle.word_sim.proofs.Digits.{lane_digit, length-lanes_of}
use Rattle.word_sim.proofs.lanes.Lanes.get.Goals as goal

pub returns-clause-value : goal.returns-clause-value
returns-clause-value c =
    let words = c.self.inside.words in
    let lane = c.args.lane in
    let four = c.self.invariant.four in
    rw (← c.self.view_is) (ap (λ d. d == 1) (shr_and_one (get_or words (lane / 64) 0) (lane % 64)) ∙ sym (lane_digit words lane (omega (arith, c.requires, four))))

pub returns-clause-whole : goal.returns-clause-whole
returns-clause-whole c =
    let four = c.self.invariant.four in
    rw (← c.self.view_is) (omega (arith, length-lanes_of c.self.inside.words, four))
