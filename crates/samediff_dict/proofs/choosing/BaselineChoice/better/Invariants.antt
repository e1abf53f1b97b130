use Rattle.samediff_dict.proofs.choosing.BaselineChoice.better.Given as goal

abbrev pub ghost-greedy : goal.ghost-greedy
ghost-greedy g a = g.rows

abbrev pub ghost-fault_free : goal.ghost-fault_free
ghost-fault_free g a = g.rows

abbrev pub ghost-keep_more : goal.ghost-keep_more
ghost-keep_more g a = g.rows
