use Rattle.std.proofs.Common.{refl}
use Rattle.suspect_scores.proofs.PatternSimLemmas.{added_none}
use Rattle.suspect_scores.proofs.suspecting.add_lines.Goals as goal

pub loop-place-init : goal.loop-place-init
loop-place-init c =
    let pattern_sim = c.args.pattern_sim.now in
    record { pattern_sim = refl; run = c.requires.run; added = added_none pattern_sim.good.circuit pattern_sim.block.vectors c.args.columns.now c.args.first c.args.scores.now.items }
