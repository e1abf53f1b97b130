use Rattle.std.proofs.Common.{◌∙◌, refl}
use Rattle.ranked_diag.proofs.NearLemmas.{near-more}
use Rattle.ranked_diag.proofs.nearest.ranks_near.Goals as goal

pub loop-number-preserved : goal.loop-number-preserved
loop-number-preserved c =
    c.in_ok-keep.ensures
    ∙ near-more c.args.counts.now c.args.lowest c.args.within c.loop-number.number _ c.loop-number.ranks.items c.loop-number-test.true refl (c.requires.lowest c.loop-number.number 0 c.loop-number-test.true) c.loop-number.invariant
