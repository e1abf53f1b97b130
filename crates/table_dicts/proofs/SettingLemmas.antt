-- Classes of the patterns of a setting are of all the circuit's numbers.
use Rattle.class_refine.proofs.PatternTables.{table_numbers}
use Rattle.table_dicts.specs.declared.setting.Setting.{Setting}
use Rattle.table_dicts.specs.Setting.{IsSetting, IsScored}

pub scored : {s : Setting} → IsSetting s → IsScored s
scored is = record { answerable = is.answerable; numbers = table_numbers is.classes }
