use Rattle.std.proofs.Common.{◌*◌}
use Rattle.net_model.specs.Rows.{row_bit}
use Rattle.dict_rows.specs.Rows.{AreBitsSet}
use Rattle.dict_rows.proofs.bits.copy_words.Given as goal

abbrev pub invariant-loop-word : goal.invariant-loop-word
invariant-loop-word l = AreBitsSet l.initial.to l.to l.target (l.begin * 64) (l.word * 64) (row_bit l.from l.source)
