use Rattle.std.proofs.Common.{◌<◌, ◌+◌, ℕ}
use Rattle.net_model.specs.Rows.{bit_of}
use Rattle.dict_rows.proofs.bits.tested_word.Given as goal

abbrev pub invariant-loop-at : goal.invariant-loop-at
invariant-loop-at g l = (k : ℕ) → k < l.at → goal.F-post g l.test (l.first + k) (bit_of l.bits k)
