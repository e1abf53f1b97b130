use Rattle.dict_file.proofs.GroupReading.{AreGroupsTo}
use Rattle.dict_file.proofs.group_numbers.read_groups.Given as goal

abbrev pub invariant-loop-number : goal.invariant-loop-number
invariant-loop-number l = AreGroupsTo l.bytes l.number l.used l.read
