use Rattle.std.proofs.Common.{arith}
use Rattle.kept_vectors.proofs.KeepLemmas.{table_patterns}
use Rattle.run_steps.proofs.results.setting_of.Goals as goal

pub returns-clause-setting : goal.returns-clause-setting
returns-clause-setting c = record {
  answerable = record { widths = c.requires.widths; few = omega (arith, table_patterns c.requires.table, c.patterns-patterns.ensures.value, c.patterns-patterns.type_inv) };
  classes = c.requires.table;
}
