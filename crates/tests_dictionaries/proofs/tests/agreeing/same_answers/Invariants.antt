use Rattle.std.proofs.Common.{◌≡◌, ℕ, ◌<◌}
use Rattle.dict_rows.specs.AnswerTable.{answer_bit}
use Rattle.tests_dictionaries.proofs.tests.agreeing.same_answers.Given as goal

abbrev pub invariant-loop-position : goal.invariant-loop-position
invariant-loop-position l = (k : ℕ) → k < l.position → answer_bit l.table l.pattern l.left k ≡ answer_bit l.table l.pattern l.right k
