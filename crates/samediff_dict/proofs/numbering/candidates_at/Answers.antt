use Rattle.std.proofs.Common.{◌∙◌, Bool, List, map, subst, arith}
use Rattle.dict_rows.specs.AnswerTable.{answer_to}
use Rattle.dict_rows.specs.Grouped.{AreGroupsOf}
use Rattle.samediff_dict.proofs.CandidateLemmas.{numbers_of_groups, groups_few}
use Rattle.samediff_dict.proofs.numbering.candidates_at.Goals as goal

pub group_rows-requires : goal.group_rows-requires
group_rows-requires c = omega (arith, c.copy_answers.ensures.shape.count_is, c.requires.few)

pub overflow_cast-count : goal.overflow_cast-count
overflow_cast-count c = omega (arith, groups_few c.in_ok-grouped.ensures, c.rows-count.ensures, c.copy_answers.ensures.shape.count_is, c.requires.few)

pub returns-clause-numbers : goal.returns-clause-numbers
returns-clause-numbers c =
    let grouped = c.in_ok-grouped.grouped in
    let answers = map (answer_to c.args.table.now c.args.pattern) c.args.leads.now in
    numbers_of_groups answers grouped.groups grouped.entries (record { numbers = c.in_ok-numbers.numbers; count = c.rows-count.result })
    (subst (λ (rs : List (List Bool)). AreGroupsOf rs grouped.groups grouped.entries) c.copy_answers.ensures.rows c.in_ok-grouped.ensures) (c.in_ok-numbers.ensures ∙ c.as_slice.ensures) c.rows-count.ensures

pub returns-clause-shape : goal.returns-clause-shape
returns-clause-shape c = c.copy_answers.ensures.shape
