use Rattle.std.proofs.Common.{◌≡◌, ◌∙◌, [], length, map, refl, sym, subst, arith}
use Rattle.std.specs.List.{range_with_len}
use Rattle.std.proofs.lemmas.List.FromFn.{get_or-map-range_with_len}
use Rattle.dict_rows.specs.declared.dict.Dict.{Dict}
use Rattle.dict_rows.specs.Entries.{same_diff_entry}
use Rattle.dict_rows.specs.Rows.{AreRows}
use Rattle.dict_rows.proofs.EntryLemmas.{dictionary_of, entry_rows_are, kind_width, kind_count}
use Rattle.table_dicts.proofs.by_class.dict_of_classes.Goals as goal

pub group_numbers-requires : goal.group_numbers-requires
group_numbers-requires c = record { numbers = c.requires.numbers; entries = c.requires.entries.count_is }

pub returns : goal.returns
returns c = λ t sizes of.
    let classes = c.args.classes.now in
    let kind = c.args.kind in
    let baselines = c.args.baselines in
    let grouped = c.in_ok-grouped.grouped in
    let entry = same_diff_entry t.rows baselines in
    let rows = map entry (range_with_len 0 t.numbers) in
    let numbers : t.numbers ≡ length classes.class_of = sizes.numbers_are ∙ c.requires.numbers in
    let are = subst (λ w. AreRows (length t.rows) w baselines) (sym sizes.positions_are) (subst (λ n. AreRows n c.args.positions baselines) (sym sizes.patterns_are) c.requires.baselines) in
    let rows_are = entry_rows_are t baselines are in
    let groups = c.in_ok-grouped.ensures rows (rows_are.count_is ∙ sizes.numbers_are) (record { own = λ n h. of.own n h ∙ sym (get_or-map-range_with_len entry 0 t.numbers n n [] (omega (arith, h, numbers)) (omega arith)) }) in
    let d : Dict = record { kind = kind; positions = c.args.positions; patterns = c.rows.result; numbers = c.args.numbers; baselines = baselines; groups = grouped.groups; entries = grouped.entries } in
    dictionary_of d t baselines entry rows refl groups (subst (λ w. AreRows t.numbers w rows) (kind_width kind c.requires.kind (length t.rows) t.positions) rows_are) (sym sizes.positions_are) (c.rows.ensures ∙ sym sizes.patterns_are)
    (sym sizes.numbers_are) refl (subst (λ n. AreRows n t.positions baselines) (kind_count kind c.requires.kind (length t.rows)) are)
