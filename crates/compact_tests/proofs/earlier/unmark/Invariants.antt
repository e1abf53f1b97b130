use Rattle.std.proofs.Common.{◌≡◌, ℕ, true, false, length, get_or}
use Rattle.compact_tests.specs.Earlier.{HasClassBetween}
use Rattle.compact_tests.proofs.earlier.unmark.Given as goal

abbrev pub invariant-loop-number : goal.invariant-loop-number
invariant-loop-number l = (class : ℕ) → get_or l.marks class false ≡ true → HasClassBetween l.group l.earlier l.number-index (length l.group) class
