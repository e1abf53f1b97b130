use Rattle.std.proofs.Common.{◌≡◌, ◌*◌, ◌<◌, ℕ}
use Rattle.net_model.specs.Rows.{row_bit}
use Rattle.dict_rows.specs.AnswerTable.{answer_bit}
use Rattle.dict_rows.proofs.projecting.differs.Given as goal

abbrev pub invariant-loop-word : goal.invariant-loop-word
invariant-loop-word l = (k : ℕ) → k < l.word * 64 → answer_bit l.table l.pattern l.number k ≡ row_bit l.baselines l.pattern k
