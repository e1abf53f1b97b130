use Rattle.std.proofs.Common.{◌∙◌, false, replicate, refl, ap}
use Rattle.net_model.specs.ClassTable.{first_table}
use Rattle.compact_tests.proofs.KeepingLemmas.{finer_first, class_rows_none}
use Rattle.compact_tests.proofs.keeping.Keeping.new.Goals as goal

pub returns-clause-keeping : goal.returns-clause-keeping
returns-clause-keeping c =
    let t = c.args.classes.now in record {
      classes = refl;
      finer = finer_first t c.in_ok-kept.kept c.args.numbers c.in_ok-kept.ensures c.requires.numbers;
      rows = class_rows_none t c.in_ok-rows.rows (c.in_ok-rows.ensures ∙ ap (λ count. replicate count (replicate 32 false)) c.requires.numbers);
    }

pub returns-clause-begun : goal.returns-clause-begun
returns-clause-begun c = λ kept. c.in_ok-kept.ensures ∙ ap first_table c.requires.numbers
