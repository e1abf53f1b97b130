use Rattle.std.proofs.Common.{◌≡◌, ℕ, ◌+◌, ◌-◌, ◌∙◌, ap, arith}
use Rattle.std.specs.Prelude.{nat_lt, ◌&&◌}
use Rattle.std.proofs.Math.Bool.{and-true}
use Rattle.std.proofs.lemmas.Bool.Decides.{nat_tests}
use Rattle.net_model.proofs.SingleWords.{digit_ones}
use Rattle.word_sim.proofs.lanes.first_word.Goals as goal

-- a place is below the number of lanes that are left exactly if its lane is below `live`
left_test : (left start at live : ℕ) → left ≡ live - start → nat_lt at left ≡ nat_lt (start + at) live
left_test left start at live e = grind (arith, nat_tests)

pub returns : goal.returns
returns c = λ at h.
    let left = c.saturating_sub.result in
    c.low_bits.ensures at h
    ∙ (ap (λ b. nat_lt at left && b) (digit_ones 64 at h)
    ∙ (and-true (nat_lt at left) ∙ left_test left c.args.start at c.args.live (omega (arith, c.saturating_sub.ensures))))
