use Rattle.std.proofs.Common.{arith}
use Rattle.dict_rows.proofs.GroupLemmas.{few_groups}
use Rattle.dict_rows.proofs.dict.Dict.group_count.Goals as goal

pub overflow_cast-result : goal.overflow_cast-result
overflow_cast-result c = omega (arith, few_groups c.requires, c.rows.ensures)
