use Rattle.std.proofs.Common.{arith}
use Rattle.samediff_dict.specs.Partition.{are_together}
use Rattle.samediff_dict.proofs.GainLemmas.{long_is, most_is}
use Rattle.samediff_dict.proofs.partition.Partition.first_most.Goals as goal

pub place_of_most-requires : goal.place_of_most-requires
place_of_most-requires c =
    omega (arith, long_is (are_together c.args.self.now) c.args.answers.now c.in_ok-gains.gains.items c.as_slice.result.now c.args.candidates c.in_ok-gains.ensures c.as_slice.ensures.value, c.requires.some)

pub returns : goal.returns
returns c = most_is (are_together c.args.self.now) c.args.answers.now c.in_ok-gains.gains.items c.as_slice.result.now c.args.candidates c.in_ok-gains.ensures c.as_slice.ensures.value c.place_of_most.result c.place_of_most.ensures
