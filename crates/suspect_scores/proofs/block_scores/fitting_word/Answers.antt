use Rattle.std.proofs.Common.{◌∙◌, ◌+◌, ◌*◌, Bool, refl, ap, ap₂, arith, w64}
use Rattle.std.specs.Prelude.{nat_lt, ◌&&◌}
use Rattle.std.specs.Int.{bit_not}
use Rattle.net_model.proofs.SingleWords.{digit_and, digit_not}
use Rattle.suspect_scores.specs.Scored.{meets_all}
use Rattle.suspect_scores.specs.Columns.{lane_score}
use Rattle.suspect_scores.proofs.BlockScores.{same_past, lane_below, lanes_fit}
use Rattle.suspect_scores.proofs.block_scores.fitting_word.Goals as goal

pub returns : goal.returns
returns c =
    let columns = c.args.columns.now in
    let sim = c.args.sim.now in
    let word = c.args.word in
    let lanes = c.lanes_in-lanes.result in
    let missed = c.unchanged_bits-missed.result in
    let wrong = c.changed_bits-false_alarm.result in
    let past = same_past sim c.args.count word lanes c.lanes_in-lanes.ensures c.requires.word c.requires.past in
    λ k h.
    lanes_fit columns sim c.args.first (word * 64) lanes (c.args.first + word * 64) refl past missed wrong c.low_bits.result c.unchanged_bits-missed.ensures c.changed_bits-false_alarm.ensures
    (λ j low.
    c.low_bits.ensures j low
    ∙ ap (λ (b : Bool). nat_lt j lanes && b)
    (digit_and (bit_not w64 missed.some) (bit_not w64 wrong.some) j ∙ ap₂ (λ (a b : Bool). a && b) (digit_not missed.some j (omega arith) low) (digit_not wrong.some j (omega arith) low)))
    k h
    ∙ ap (λ (b : Bool). b && meets_all (lane_score columns sim c.args.first (word * 64 + k))) (lane_below c.args.count word lanes k c.lanes_in-lanes.ensures h)
