use Rattle.std.proofs.Common.{◌≡◌, length, ap, subst, arith}
use Rattle.adaptive_planner.specs.Numbering.{AreNumbersTo, lead_answer}
use Rattle.adaptive_planner.proofs.TableNumberLemmas.{leads_long, numbers_by_leads}
use Rattle.adaptive_planner.proofs.table_numbers.numbers_of_table.Goals as goal

pub add_row-requires-clause-some : goal.add_row-requires-clause-some
add_row-requires-clause-some c =
    let many = leads_long c.args.classes.now c.in_ok-leads.leads.items c.in_ok-leads.ensures.lowest in
    omega (arith, ap length c.as_slice.ensures.value, many, c.in_ok-leads.ensures.whole.patterns)

pub returns-clause-of : goal.returns-clause-of
returns-clause-of c =
    let table = c.args.table.now in
    let leads = c.in_ok-leads.leads.items in
    let end : c.loop-pattern.pattern ≡ length table.rows = omega (arith, c.loop-pattern-test.false, c.loop-pattern.auto.pattern-end, c.patterns-pattern-end.ensures.value) in
    numbers_by_leads c.args.classes.now leads c.in_ok-leads.ensures.lowest table c.loop-pattern.numbers (subst (λ k. AreNumbersTo (lead_answer table leads) k (length leads) c.loop-pattern.numbers) end c.loop-pattern.invariant.to)
