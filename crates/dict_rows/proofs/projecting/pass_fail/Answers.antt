use Rattle.std.proofs.Common.{List, Bool, subst, IfOk}
use Rattle.dict_rows.specs.declared.dict.DictKind.TheVariants.{PassFail}
use Rattle.dict_rows.specs.Entries.{same_diff_entry}
use Rattle.dict_rows.specs.Dictionary.{IsDictionary}
use Rattle.dict_rows.proofs.projecting.pass_fail.Goals as goal

pub returns : goal.returns
returns c =
    let t = c.args.table.now in
    subst (λ (free : List (List Bool)). IfOk c.by_baselines.result (λ dict. IsDictionary dict PassFail t free (same_diff_entry t.rows free))) c.in_ok-free.ensures.rows c.by_baselines.ensures
