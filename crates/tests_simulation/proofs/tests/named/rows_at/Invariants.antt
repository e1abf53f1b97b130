use Rattle.std.proofs.Common.{◌≡◌, length}
use Rattle.std.specs.Prelude.{All}
use Rattle.tests_simulation.proofs.tests.named.rows_at.Given as goal

abbrev pub invariant-loop-number : goal.invariant-loop-number
invariant-loop-number l = record { numbers : length l.rows ≡ 11; width : All (λ row. length row ≡ 1) l.rows }
