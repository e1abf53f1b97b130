use Rattle.samediff_dict.specs.Copied.{AreLeads}
use Rattle.samediff_dict.proofs.copying.chosen_leads.Given as goal

abbrev pub invariant-loop-pattern : goal.invariant-loop-pattern
invariant-loop-pattern l = AreLeads l.classes l.patterns l.chosen l.pattern l.leads.items
