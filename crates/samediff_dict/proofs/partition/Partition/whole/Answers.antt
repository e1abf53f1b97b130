use Rattle.std.proofs.Common.{refl}
use Rattle.samediff_dict.proofs.CutLemmas.{whole_partition}
use Rattle.samediff_dict.proofs.partition.Partition.whole.Goals as goal

pub returns : goal.returns
returns c = whole_partition c.args.classes c.in_ok-first_numbers.ensures (c.in_ok-group_of.ensures.items_if_clones_equal (λ y e. e)) refl
