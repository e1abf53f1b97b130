use Rattle.std.proofs.Common.{◌≡◌, ◌∙◌, List, Bool, All, length, ap, sym, subst}
use Rattle.net_model.specs.ClassTable.{ClassTable}
use Rattle.class_refine.proofs.PatternTables.{table_numbers}
use Rattle.tests_dictionaries.proofs.tests.circuits.kept_by.Goals as goal

pub returns-clause-widths : goal.returns-clause-widths
returns-clause-widths c =
    let same = c.in_ok-patterns.ensures.list ∙ c.into_kept-vectors.ensures.vectors in
    subst (λ (vectors : List (List Bool)). All (λ v. length v ≡ c.args.keeper.circuit.sources) vectors) (sym same) c.into_kept-vectors.ensures.keeper.splits.widths

pub returns-clause-numbers : goal.returns-clause-numbers
returns-clause-numbers c = ap (λ (t : ClassTable). length t.class_of) c.into_kept-vectors.ensures.classes ∙ table_numbers c.into_kept-vectors.ensures.keeper.table
