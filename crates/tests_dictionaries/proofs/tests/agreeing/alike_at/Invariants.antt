use Rattle.tests_dictionaries.specs.Leads.{AnswerAsLeads}
use Rattle.tests_dictionaries.proofs.tests.agreeing.alike_at.Given as goal

abbrev pub invariant-loop-number : goal.invariant-loop-number
invariant-loop-number l = AnswerAsLeads l.classes l.table l.pattern l.number
