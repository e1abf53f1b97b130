use Rattle.std.proofs.Common.{◌≡◌, ◌*◌, ℕ, ap, arith}
use Rattle.samediff_dict.proofs.ListedLemmas.{listed_few}
use Rattle.samediff_dict.proofs.CutLemmas.{apart_is}
use Rattle.samediff_dict.proofs.partition.Partition.apart.Goals as goal

squared : (n count : ℕ) → count ≡ n → count * count ≡ n * n
squared n count e = ap (λ k. k * k) e

pub tally-requires-clause-few : goal.tally-requires-clause-few
tally-requires-clause-few c = omega (arith, listed_few c.requires, c.requires.one_each)

pub overflow_sub-result-2 : goal.overflow_sub-result-2
overflow_sub-result-2 c = omega (arith, squared c.args.classes c.from-count.result c.from-count.ensures, apart_is c.requires c.in_ok-tally.tally.together c.in_ok-tally.ensures.together_is)

pub returns : goal.returns
returns c = omega (arith, squared c.args.classes c.from-count.result c.from-count.ensures, apart_is c.requires c.in_ok-tally.tally.together c.in_ok-tally.ensures.together_is)
