use Rattle.std.proofs.Common.{inl, inr, sym, subst, arith}
use Rattle.std.proofs.lemmas.Result.{err_from_is_err_and}
use Rattle.dict_rows.specs.declared.dict.Dict.{Dict}
use Rattle.dict_file.specs.declared.fault.DictVersion.TheVariants.{One}
use Rattle.dict_file.specs.Spelling.{IsFileOf}
use Rattle.dict_file.specs.Reading.{end_part}
use Rattle.dict_file.proofs.PlaceLemmas.{length-read}
use Rattle.dict_file.proofs.DecodeLemmas.{read_one}
use Rattle.dict_file.proofs.reading.decode_one.Goals as goal

pub baselines-requires-clause-begins : goal.baselines-requires-clause-begins
baselines-requires-clause-begins c = omega (arith, c.requires.is.right.1.1.1.1.1.0.0)

pub returns-in_err-above-clause-refused : goal.returns-in_err-above-clause-refused
returns-in_err-above-clause-refused c =
    let p = err_from_is_err_and c.from_residual.result c.from_residual.ensures.1 in
    rw (p.1, p.2) (λ ne. inl (c.in_err-above.ensures.refused ne))

pub returns-in_err-below-clause-refused : goal.returns-in_err-below-clause-refused
returns-in_err-below-clause-refused c =
    let p = err_from_is_err_and c.from_residual-in_err-below.result c.from_residual-in_err-below.ensures.1 in
    rw (p.1, p.2) (λ ne. inr (c.in_ok-above.ensures.read.right, inl (c.in_err-below.ensures.refused ne)))

pub returns-in_err-check_end-clause-refused : goal.returns-in_err-check_end-clause-refused
returns-in_err-check_end-clause-refused c =
    let p = err_from_is_err_and c.from_residual-in_err-check_end.result c.from_residual-in_err-check_end.ensures.1 in
    let below = c.in_ok-below.ensures.read in
    let trailing = subst (λ n. (end_part c.args.bytes.now n).Refused c.in_err-check_end.field-0.0) below.end_is c.in_err-check_end.ensures.refused in
    rw (p.1, p.2) (λ ne. inr (c.in_ok-above.ensures.read.right, inr (below.right, trailing)))

pub group-requires-clause-some : goal.group-requires-clause-some
group-requires-clause-some c = omega (arith, length-read c.in_ok-below.ensures.read, c.requires.is.right.1.1.1.1.1.1)

pub group-requires-clause-few : goal.group-requires-clause-few
group-requires-clause-few c = omega (arith, length-read c.in_ok-below.ensures.read, c.requires.is.right.1.1.1.1.1.0.1)

pub returns-clause-read : goal.returns-clause-read
returns-clause-read c =
    let bytes = c.args.bytes.now in
    subst (λ (d : Dict). IsFileOf d bytes) (sym c.with.ensures)
    (One, read_one (λ i. omega (arith, c.type_inv.bytes i)) c.requires c.in_ok-above.ensures.read c.in_ok-below.ensures.read c.in_ok-grouped.ensures c.in_ok-check_end.ensures.right)
