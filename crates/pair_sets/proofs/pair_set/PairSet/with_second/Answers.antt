use Rattle.std.specs.Prelude.{Some, None}
use Rattle.pair_sets.proofs.GateLemmas.{put_is}
use Rattle.pair_sets.proofs.pair_set.PairSet.with_second.Goals as goal

pub returns : goal.returns
returns c = rw (c.new.ensures, c.has_first-zero.ensures, c.has_first-one.ensures) (put_is None (Some c.args.bit) c.args.self)
