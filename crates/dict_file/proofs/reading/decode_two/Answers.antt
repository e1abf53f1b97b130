use Rattle.std.proofs.Common.{◌∙◌, ap, inl, inr, sym, subst, arith}
use Rattle.std.proofs.lemmas.Result.{err_from_is_err_and}
use Rattle.dict_rows.specs.declared.dict.Dict.{Dict}
use Rattle.dict_file.specs.declared.fault.DictVersion.TheVariants.{Two}
use Rattle.dict_file.specs.Spelling.{IsFileOf}
use Rattle.dict_file.specs.Reading.{end_part, groups_before}
use Rattle.dict_file.proofs.PlaceLemmas.{group_numbers_inside}
use Rattle.dict_file.proofs.DecodeLemmas.{read_two}
use Rattle.dict_file.proofs.reading.decode_two.Goals as goal

pub baselines-requires-clause-begins : goal.baselines-requires-clause-begins
baselines-requires-clause-begins c = c.in_ok-count.ensures.right.0

pub returns-in_err-above-clause-refused : goal.returns-in_err-above-clause-refused
returns-in_err-above-clause-refused c =
    let p = err_from_is_err_and c.from_residual-in_err-above.result c.from_residual-in_err-above.ensures.1 in
    rw (p.1, p.2) (λ ne. inr (c.in_ok-count.ensures.right, inl (c.in_err-above.ensures.refused ne)))

pub read_groups-requires-clause-from : goal.read_groups-requires-clause-from
read_groups-requires-clause-from c = c.in_ok-above.ensures.read.end_is

pub read_groups-requires-clause-begins : goal.read_groups-requires-clause-begins
read_groups-requires-clause-begins c = c.in_ok-above.ensures.read.within

pub returns-in_err-groups-clause-refused : goal.returns-in_err-groups-clause-refused
returns-in_err-groups-clause-refused c =
    let p = err_from_is_err_and c.from_residual-in_err-groups.result c.from_residual-in_err-groups.ensures.1 in
    rw (p.1, p.2) (λ ne. inr (c.in_ok-count.ensures.right, inr (c.in_ok-above.ensures.read.right, inl (c.in_err-groups.ensures.refused ne))))

pub overflow_add-from : goal.overflow_add-from
overflow_add-from c = omega (arith, c.in_ok-above.ensures.read.within, c.requires.short, c.requires.is.numbers_are, c.requires.is.right.1.1.1.1.1.0.1)

pub new_entries-requires-clause-from : goal.new_entries-requires-clause-from
new_entries-requires-clause-from c = omega (arith, c.in_ok-above.ensures.read.end_is, c.requires.is.numbers_are)

pub new_entries-requires-clause-begins : goal.new_entries-requires-clause-begins
new_entries-requires-clause-begins c =
    let head = c.requires.is in
    omega (arith, group_numbers_inside c.args.bytes.now head.right.1.1.1.1.1.1 c.in_ok-groups.ensures.right, c.in_ok-above.ensures.read.end_is, head.numbers_are)

pub returns-in_err-below-clause-refused : goal.returns-in_err-below-clause-refused
returns-in_err-below-clause-refused c =
    let p = err_from_is_err_and c.from_residual-in_err-below.result c.from_residual-in_err-below.ensures.1 in
    let above = c.in_ok-above.ensures.read in
    rw (p.1, p.2) (λ ne. inr (c.in_ok-count.ensures.right, inr (above.right, inr (c.in_ok-groups.ensures.right, inl (c.in_err-below.ensures.refused ne)))))

pub returns-in_err-check_end-clause-refused : goal.returns-in_err-check_end-clause-refused
returns-in_err-check_end-clause-refused c =
    let below = c.in_ok-below.ensures.read in
    let trailing = subst (λ n. (end_part c.args.bytes.now n).Refused c.in_err-check_end.field-0.0) below.end_is c.in_err-check_end.ensures.refused in
    let p = err_from_is_err_and c.from_residual-in_err-check_end.result c.from_residual-in_err-check_end.ensures.1 in
    rw (p.1, p.2) (λ ne. inr (c.in_ok-count.ensures.right, inr (c.in_ok-above.ensures.read.right, inr (c.in_ok-groups.ensures.right, inr (below.right, trailing)))))

pub returns-clause-read : goal.returns-clause-read
returns-clause-read c =
    let bytes = c.args.bytes.now in
    let groups = c.in_ok-groups.ensures.read ∙ ap (groups_before bytes) c.requires.is.numbers_are in
    subst (λ (d : Dict). IsFileOf d bytes) (sym c.with.ensures)
    (Two, read_two (λ i. omega (arith, c.type_inv.bytes i)) c.requires c.in_ok-count.ensures.right c.in_ok-above.ensures.read groups c.in_ok-groups.ensures.right c.in_ok-below.ensures.read c.in_ok-check_end.ensures.right)
