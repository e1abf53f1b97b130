use Rattle.std.proofs.Common.{length, refl, subst, arith}
use Rattle.dict_rows.specs.declared.dict.Dict.{Dict}
use Rattle.dict_rows.specs.Rows.{AreRows}
use Rattle.dict_rows.specs.Entries.{same_diff_entry}
use Rattle.dict_rows.proofs.EntryLemmas.{dictionary_of, kind_width, kind_count}
use Rattle.dict_rows.proofs.projecting.by_baselines.Goals as goal

pub group_rows-requires : goal.group_rows-requires
group_rows-requires c = omega (arith, c.in_ok-rows.ensures.shape.count_is, c.numbers-numbers.ensures.value)

pub returns : goal.returns
returns c =
    let t = c.args.table.now in
    let kind = c.args.kind in
    let d : Dict = record { kind = kind; positions = c.positions.result; patterns = c.patterns.result; numbers = c.numbers-numbers.result; baselines = c.args.baselines; groups = c.in_ok-grouped.grouped.groups; entries = c.in_ok-grouped.grouped.entries } in
    dictionary_of d t c.args.baselines (same_diff_entry t.rows c.args.baselines) c.in_ok-rows.rows c.in_ok-rows.ensures.entries c.in_ok-grouped.ensures
    (subst (λ w. AreRows t.numbers w c.in_ok-rows.rows) (kind_width kind c.requires.kind (length t.rows) t.positions) c.in_ok-rows.ensures.shape) c.positions.ensures.value c.patterns.ensures.value c.numbers-numbers.ensures.value refl
    (subst (λ n. AreRows n t.positions c.args.baselines) (kind_count kind c.requires.kind (length t.rows)) c.requires.baselines)
