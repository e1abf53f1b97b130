use Rattle.std.proofs.Common.{[], arith}
use Rattle.dict_rows.specs.declared.dict.Dict.{Dict}
use Rattle.dict_rows.specs.declared.dict.DictKind.TheVariants.{Full}
use Rattle.dict_rows.specs.Entries.{full_entry}
use Rattle.dict_rows.proofs.EntryLemmas.{dictionary_of, no_rows}
use Rattle.dict_rows.proofs.projecting.full.Goals as goal

pub group_rows-requires : goal.group_rows-requires
group_rows-requires c = omega (arith, c.cells.ensures.shape.count_is, c.numbers-numbers.ensures.value)

pub returns : goal.returns
returns c =
    let t = c.args.table.now in
    let d : Dict = record { kind = Full; positions = c.positions.result; patterns = c.patterns.result; numbers = c.numbers-numbers.result; baselines = c.in_ok-zeros.field-0; groups = c.in_ok-grouped.grouped.groups; entries = c.in_ok-grouped.grouped.entries } in
    dictionary_of d t [] (full_entry t.rows) c.cells.result.now c.cells.ensures.entries c.in_ok-grouped.ensures c.cells.ensures.shape c.positions.ensures.value c.patterns.ensures.value c.numbers-numbers.ensures.value c.in_ok-zeros.ensures
    (no_rows t.positions)
