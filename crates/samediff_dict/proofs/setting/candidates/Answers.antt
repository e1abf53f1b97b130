use Rattle.std.proofs.Common.{◌∙◌, ◌<◌, subst, ap, length, arith}
use Rattle.std.specs.Prelude.{All}
use Rattle.class_refine.proofs.PatternTables.{table_numbers}
use Rattle.samediff_dict.proofs.setting.candidates.Goals as goal

pub candidates_of-requires-clause-leads : goal.candidates_of-requires-clause-leads
candidates_of-requires-clause-leads c = c.as_slice.ensures.value ∙ c.in_ok-leads.ensures.lowest

pub candidates_of-requires-clause-within : goal.candidates_of-requires-clause-within
candidates_of-requires-clause-within c = rw c.as_slice.ensures.value (subst (λ n. All (λ number. number < n) c.in_ok-leads.leads.items) (table_numbers c.requires.classes) c.in_ok-leads.ensures.within)

pub candidates_of-requires-clause-few : goal.candidates_of-requires-clause-few
candidates_of-requires-clause-few c = omega (arith, ap length c.as_slice.ensures.value, c.in_ok-leads.ensures.few)
