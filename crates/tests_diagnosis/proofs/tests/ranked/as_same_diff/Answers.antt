use Rattle.std.specs.Prelude.{All, length}
use Rattle.std.proofs.Common.{◌≡◌, subst}
use Rattle.dict_rows.specs.declared.dict.DictKind.{DictKind}
use Rattle.dict_rows.specs.Dictionary.{baseline_count, entry_width}
use Rattle.dict_rows.specs.Rows.{AreRows}
use Rattle.tests_diagnosis.proofs.tests.ranked.as_same_diff.Goals as goal

pub returns-clause-shaped : goal.returns-clause-shaped
returns-clause-shaped c =
    let d = c.args.dict.now in record {
      baselines = subst (λ (kind : DictKind). AreRows (baseline_count kind d.patterns) d.positions d.baselines) c.requires.kind c.requires.shaped.baselines;
      entries = subst (λ (kind : DictKind). All (λ row. length row ≡ entry_width kind d.patterns d.positions) d.entries) c.requires.kind c.requires.shaped.entries;
    }
