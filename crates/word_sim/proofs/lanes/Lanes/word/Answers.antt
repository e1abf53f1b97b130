use Rattle.std.proofs.Common.{◌%◌, ◌∙◌, get_or, sym, ap, arith}
use Rattle.net_model.specs.Rows.{bit_of}
use Rattle.word_sim.proofs.Digits.{lane_digit}
use Rattle.word_sim.proofs.lanes.Lanes.word.Goals as goal

pub returns : goal.returns
returns c =
    let words = c.self.inside.words in
    let four = c.self.invariant.four in
    rw (← c.self.view_is) (λ lane h e. ap (λ k. bit_of (get_or words k 0) (lane % 64)) (sym e) ∙ sym (lane_digit words lane (omega (arith, h, four))))
