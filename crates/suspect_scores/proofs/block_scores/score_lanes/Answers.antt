use Rattle.std.proofs.Common.{◌∙◌, ◌+◌, ◌*◌, Bool, refl, ap₂, arith, w64}
use Rattle.std.specs.Prelude.{bit_and, ◌&&◌}
use Rattle.std.specs.Int.{bit_not}
use Rattle.net_model.proofs.SingleWords.{digit_and, digit_not}
use Rattle.suspect_scores.proofs.BlockScores.{lanes_scored}
use Rattle.suspect_scores.proofs.block_scores.score_lanes.Goals as goal

pub returns : goal.returns
returns c =
    let hit = c.changed_bits-hit.result in
    let missed = c.unchanged_bits-missed.result in
    let wrong = c.changed_bits-false_alarm.result in
    let unmissed = bit_not w64 missed.some in
    let quiet = bit_not w64 wrong.some in
    lanes_scored c.args.columns.now c.args.sim.now c.args.first (c.args.word * 64) c.args.lanes (c.args.first + c.args.word * 64) refl c.requires.past hit missed wrong _ c.requires.lanes c.changed_bits-hit.ensures c.unchanged_bits-missed.ensures
    c.changed_bits-false_alarm.ensures
    (λ k h.
    digit_and (bit_and hit.some unmissed) quiet k
    ∙ ap₂ (λ (a b : Bool). a && b) (digit_and hit.some unmissed k ∙ ap₂ (λ (a b : Bool). a && b) refl (digit_not missed.some k (omega arith) h)) (digit_not wrong.some k (omega arith) h))
    refl refl refl
