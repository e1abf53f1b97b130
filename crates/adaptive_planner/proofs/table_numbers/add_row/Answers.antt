use Rattle.std.proofs.Common.{ℕ, Bool, List, [], length, map, sym, subst, arith}
use Rattle.std.proofs.lemmas.Grind.{get_or_default_zero}
use Rattle.std.proofs.lemmas.List.{get_or-map, length-map}
use Rattle.dict_rows.specs.AnswerTable.{answer_to}
use Rattle.dict_rows.specs.Grouped.{AreGroupsOf}
use Rattle.adaptive_planner.specs.Numbering.{AreRowNumbers, lead_answer}
use Rattle.adaptive_planner.proofs.TableNumberLemmas.{groups_are_numbers, pattern_added}
use Rattle.adaptive_planner.proofs.table_numbers.add_row.Goals as goal
use Rattle.adaptive_planner.proofs.table_numbers.add_row.Goals.{After-as_slice}

rows_are : (c : After-as_slice) → AreRowNumbers (lead_answer c.args.table.now c.args.leads.now c.args.pattern) (length c.args.leads.now) c.as_slice.result.now c.in_ok-answers.answers.items
rows_are c =
    let f = answer_to c.args.table.now c.args.pattern in
    let leads = c.args.leads.now in
    let grouped = c.in_ok-grouped.grouped in
    let groups : AreGroupsOf (map f leads) grouped.groups grouped.entries = subst (λ (rs : List (List Bool)). AreGroupsOf rs grouped.groups grouped.entries) c.copy_answers.ensures.rows c.in_ok-grouped.ensures in
    let are = groups_are_numbers (lead_answer c.args.table.now leads c.args.pattern) (length leads) (map f leads) grouped.groups grouped.entries groups (length-map leads f) (λ class h. get_or-map f leads class 0 [] h) in
    subst (λ (ns : List ℕ). AreRowNumbers (lead_answer c.args.table.now leads c.args.pattern) (length leads) ns c.in_ok-answers.answers.items) (sym c.as_slice.ensures)
    (subst (λ (rs : List (List Bool)). AreRowNumbers (lead_answer c.args.table.now leads c.args.pattern) (length leads) grouped.groups rs) (sym c.in_ok-answers.ensures) are)

pub add_pattern-requires-clause-within : goal.add_pattern-requires-clause-within
add_pattern-requires-clause-within c = λ k d h.
    let are = rows_are ((goal.at.add_pattern-requires-clause-within c).After-as_slice) in
    omega (arith, get_or_default_zero c.as_slice.result.now k d h, are.within k (omega (arith, h, are.one_each)))

pub returns-clause-to : goal.returns-clause-to
returns-clause-to c =
    let table = c.args.table.now in
    let leads = c.args.leads.now in
    pattern_added (lead_answer table leads) (length leads) c.args.pattern c.as_slice.result.now c.in_ok-answers.answers.items c.args.numbers.now c.add_pattern.new.self c.in_ok-add_pattern.ensures c.requires.to
    (rows_are ((goal.at.returns-clause-to c).After-as_slice))
