use Rattle.std.proofs.Common.{◌≡◌, ◌∙◌, ◌+◌, ◌*◌, min, length, ap, arith}
use Rattle.suspect_scores.specs.Columns.{lane_score, suspect_to}
use Rattle.suspect_scores.proofs.BlockScores.{scores_small, word_fits, word_added, same_past}
use Rattle.suspect_scores.proofs.block_scores.block_score.Goals as goal

pub loop-word-init : goal.loop-word-init
unfolding suspect_to
loop-word-init c = let none : 0 ≡ min 0 c.args.count = omega arith in ap (suspect_to (lane_score c.args.columns.now c.args.sim.now c.args.first) c.args.number) none

pub lanes_in-requires : goal.lanes_in-requires
lanes_in-requires c = omega (arith, c.loop-word-test.true, c.div_ceil-word-end.ensures, c.requires.count)

pub score_lanes-more-requires-clause-past : goal.score_lanes-more-requires-clause-past
score_lanes-more-requires-clause-past c =
    same_past c.args.sim.now c.args.count c.loop-word.word c.lanes_in.result c.lanes_in.ensures (omega (arith, c.loop-word-test.true, c.div_ceil-word-end.ensures, c.requires.count)) c.requires.past

pub add-requires : goal.add-requires
add-requires c =
    let sim = c.args.sim.now in
    let score = lane_score c.args.columns.now sim c.args.first in
    let n = c.loop-word.word * 64 in
    let before : min n c.args.count ≡ n = omega (arith, c.loop-word-test.true, c.div_ceil-word-end.ensures) in
    word_fits score c.args.number n c.lanes_in.result c.args.count (length sim.circuit.positions) c.score_lanes-more.result c.loop-word.block (c.loop-word.invariant ∙ ap (suspect_to score c.args.number) before) c.score_lanes-more.ensures
    (omega (arith, c.lanes_in.ensures)) (omega arith) (omega (arith, c.lanes_in.ensures, c.loop-word-test.true, c.div_ceil-word-end.ensures)) c.requires.count (scores_small c.args.columns.now sim c.args.first) c.requires.fits

pub loop-word-preserved : goal.loop-word-preserved
loop-word-preserved c =
    let score = lane_score c.args.columns.now c.args.sim.now c.args.first in
    let n = c.loop-word.word * 64 in
    let before : min n c.args.count ≡ n = omega (arith, c.loop-word-test.true, c.div_ceil-word-end.ensures) in
    word_added score c.args.number n c.lanes_in.result (min ((c.loop-word.word + 1) * 64) c.args.count) c.score_lanes-more.result c.loop-word.block c.add.new.suspect (c.loop-word.invariant ∙ ap (suspect_to score c.args.number) before)
    c.score_lanes-more.ensures (omega (arith, c.lanes_in.ensures)) (omega arith) (omega (arith, c.lanes_in.ensures, c.loop-word-test.true, c.div_ceil-word-end.ensures)) c.add.ensures

pub returns : goal.returns
returns c =
    let all : min (c.loop-word.word * 64) c.args.count ≡ c.args.count = omega (arith, c.loop-word-test.false, c.div_ceil-word-end.ensures) in
    c.loop-word.invariant ∙ ap (suspect_to (lane_score c.args.columns.now c.args.sim.now c.args.first) c.args.number) all
