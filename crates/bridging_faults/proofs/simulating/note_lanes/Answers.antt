use Rattle.std.proofs.Common.{◌*◌, ◌<◌, arith}
use Rattle.net_model.specs.Answer.{bit_at}
use Rattle.word_sim.specs.declared.lanes.TheConstants.{LANES}
use Rattle.suspect_scores.proofs.BlockScores.{lane_bit}
use Rattle.bridging_faults.proofs.SimulatedLemmas.{words_none, words_more, words_all}
use Rattle.bridging_faults.proofs.simulating.note_lanes.Goals as goal

pub loop-word-init : goal.loop-word-init
loop-word-init c = words_none (bit_at c.args.lanes) c.args.first c.args.count c.args.rows.now c.args.row

pub loop-word-preserved : goal.loop-word-preserved
loop-word-preserved c =
    let word = c.loop-word.word in
    let low : word * 64 < LANES = omega (arith, c.loop-word-test.true, c.loop-word.auto.word-end, c.requires.count) in
    words_more (bit_at c.args.lanes) c.args.first c.args.count word _ c.word.result c.args.row c.args.rows.now c.loop-word.rows c.set_word.new.self c.loop-word.invariant c.set_word.ensures (omega arith) c.requires.aligned c.requires.wide
    (λ k h live. lane_bit c.word.result c.args.lanes word k c.word.ensures low h)

pub returns : goal.returns
returns c =
    words_all (bit_at c.args.lanes) c.args.first c.args.count c.loop-word.word c.args.row c.args.rows.now c.loop-word.rows c.loop-word.invariant (omega (arith, c.loop-word-test.false, c.loop-word.auto.word-end))
