use Rattle.std.proofs.Common.{length, List, Bool, sym, subst, IfOk}
use Rattle.dict_rows.specs.declared.dict.DictKind.TheVariants.{SameDiff}
use Rattle.dict_rows.specs.Rows.{AreRows}
use Rattle.dict_rows.specs.Entries.{same_diff_entry}
use Rattle.dict_rows.specs.Dictionary.{IsDictionary}
use Rattle.dict_rows.proofs.projecting.project.Goals as goal

pub by_baselines-requires-clause-baselines : goal.by_baselines-requires-clause-baselines
by_baselines-requires-clause-baselines c = subst (AreRows (length c.args.table.now.rows) c.args.table.now.positions) (sym c.in_ok-baselines.ensures) c.requires.baselines

pub returns : goal.returns
returns c =
    let t = c.args.table.now in
    subst (λ (baselines : List (List Bool)). IfOk c.by_baselines.result (λ dict. IsDictionary dict SameDiff t baselines (same_diff_entry t.rows baselines))) c.in_ok-baselines.ensures c.by_baselines.ensures
