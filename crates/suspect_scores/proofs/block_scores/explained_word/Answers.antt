use Rattle.std.proofs.Common.{◌∙◌, ◌+◌, ◌*◌, Bool, ap}
use Rattle.std.specs.Prelude.{◌&&◌}
use Rattle.suspect_scores.specs.Scored.{does_explain}
use Rattle.suspect_scores.specs.Columns.{lane_score}
use Rattle.suspect_scores.proofs.BlockScores.{same_past, lane_below}
use Rattle.suspect_scores.proofs.block_scores.explained_word.Goals as goal

pub score_lanes-requires-clause-past : goal.score_lanes-requires-clause-past
score_lanes-requires-clause-past c = same_past c.args.sim.now c.args.count c.args.word c.lanes_in.result c.lanes_in.ensures c.requires.word c.requires.past

pub returns : goal.returns
returns c = λ k h.
    c.score_lanes.ensures.explained k h
    ∙ ap (λ (b : Bool). b && does_explain (lane_score c.args.columns.now c.args.sim.now c.args.first (c.args.word * 64 + k))) (lane_below c.args.count c.args.word c.lanes_in.result k c.lanes_in.ensures h)
