use Rattle.std.proofs.Common.{eqb, get_or}
use Rattle.diagnose.proofs.ListingLemmas.{kept_more}
use Rattle.diagnose.proofs.listing.numbers_in.Goals as goal

pub loop-number-preserved : goal.loop-number-preserved
loop-number-preserved c = kept_more (λ n. eqb (get_or c.args.groups.now n 0) c.args.group) c.loop-number.number c.loop-number.listed.items _ c.loop-number.invariant c.in_ok-keep.ensures
