use Rattle.std.proofs.Common.{arith}
use Rattle.class_refine.proofs.PatternTables.{table_numbers}
use Rattle.dia_gen.proofs.DraftSteps.{draft_broken}
use Rattle.dia_gen.proofs.draft.Draft.settle.Goals as goal

pub write_before_search-requires : goal.write_before_search-requires
write_before_search-requires g c κs within =
    let d = c.in_ok-keep_apart.ensures.draft in
    let lead = rw c.classes-classes.ensures.value at c.representative-lead.ensures.within in
    (within, (d, (omega (arith, lead, table_numbers d.is.keeper.table), omega (arith, c.requires.1.1.inside, table_numbers c.requires.1.0.is.keeper.table))))

pub settle_pair-requires-clause-lead : goal.settle_pair-requires-clause-lead
settle_pair-requires-clause-lead g c =
    let lead = rw c.classes-classes.ensures.value at c.representative-lead.ensures.within in
    omega (arith, lead, table_numbers c.in_ok-keep_apart.ensures.draft.is.keeper.table)

pub settle_pair-requires-clause-member : goal.settle_pair-requires-clause-member
settle_pair-requires-clause-member g c = omega (arith, c.requires.1.1.inside, table_numbers c.requires.1.0.is.keeper.table)

pub returns-in-Err-clause-err : goal.returns-in-Err-clause-err
returns-in-Err-clause-err g c = draft_broken c.in_ok-write_before_search.ensures.draft
