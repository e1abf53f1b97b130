use Rattle.std.proofs.Common.{length}
use Rattle.suspect_scores.specs.Columns.{lane_score}
use Rattle.suspect_scores.proofs.BlockScores.{scores_small, block_fits, block_added}
use Rattle.suspect_scores.proofs.block_scores.add_block.Goals as goal

pub add-requires : goal.add-requires
add-requires c =
    let sim = c.args.sim.now in
    block_fits (lane_score c.args.columns.now sim c.args.first) c.args.suspect.now.number c.args.count (length sim.circuit.positions) c.args.suspect.now c.block_score-block.result c.block_score-block.ensures
    (scores_small c.args.columns.now sim c.args.first) c.requires.fits

pub returns : goal.returns
returns c = block_added (lane_score c.args.columns.now c.args.sim.now c.args.first) c.args.suspect.now.number c.args.count c.args.suspect.now c.block_score-block.result c.add.new.suspect c.block_score-block.ensures c.add.ensures
