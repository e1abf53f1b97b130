-- Literals as numbers.
use Rattle.std.specs.Prelude.{◌≡◌, ℕ, ◌+◌, ◌*◌, ◌/◌, ◌%◌, ◌==◌, if◌then◌else◌}
use Rattle.std.proofs.Common.{arith}
use Rattle.std.proofs.lemmas.Bool.Decides.{nat_tests}
use Rattle.clause_pool.specs.Literal.{Literal}

-- the number of a literal: twice its variable, and one more if it is positive
abbrev pub code_of : Literal → ℕ
code_of l = 2 * l.variable + (if l.positive then 1 else 0)

abbrev pub literal_of : ℕ → Literal
literal_of code = record { variable = code / 2; positive = code % 2 == 1 }

pub code_of-literal_of : (code : ℕ) → code_of (literal_of code) ≡ code
code_of-literal_of code = grind (arith, nat_tests)
