use Rattle.std.proofs.Common.{ℕ, ◌<◌}
use Rattle.tests_dictionaries.specs.Leads.{AnswerAsLeads}
use Rattle.tests_dictionaries.proofs.tests.agreeing.alike.Given as goal

abbrev pub invariant-loop-pattern : goal.invariant-loop-pattern
invariant-loop-pattern l = (k : ℕ) → k < l.pattern → AnswerAsLeads l.classes l.table k l.table.numbers
