use Rattle.pair_sets.proofs.GateLemmas.{chooses_is}
use Rattle.pair_sets.proofs.pair_set.PairSet.chooses.Goals as goal

pub returns : goal.returns
returns c =
    rw (c.has.ensures, c.has-2.ensures, c.some.ensures, c.has-3.ensures, c.has_first.ensures, c.has_second.ensures, c.has-4.ensures, c.has_first-2.ensures, c.has_second-2.ensures, c.has-5.ensures, c.some-2.ensures, c.has-6.ensures)
    (chooses_is c.args.self c.args.low c.args.high c.args.first c.args.second)
