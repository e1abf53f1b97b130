use Rattle.std.proofs.Common.{◌≡◌, length}
use Rattle.std.specs.Prelude.{All}
use Rattle.tests_simulation.proofs.tests.refined.rows_with.Given as goal

abbrev pub invariant-loop-number : goal.invariant-loop-number
invariant-loop-number l = record { numbers : length l.rows ≡ l.numbers; width : All (λ row. length row ≡ l.width) l.rows }
