use Rattle.samediff_dict.specs.Choice.{IsPartitionFrom}
use Rattle.samediff_dict.proofs.choosing.BaselineChoice.apart.Given as goal

abbrev pub invariant-loop-pattern : goal.invariant-loop-pattern
invariant-loop-pattern g l = IsPartitionFrom g.rows l.self l.chosen 0 l.pattern l.told
