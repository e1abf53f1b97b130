use Rattle.std.specs.Prelude.{Some, None}
use Rattle.pair_sets.proofs.GateLemmas.{put_is}
use Rattle.pair_sets.proofs.pair_set.PairSet.with_first.Goals as goal

pub returns : goal.returns
returns c = rw (c.new.ensures, c.has_second-zero.ensures, c.has_second-one.ensures) (put_is (Some c.args.bit) None c.args.self)
