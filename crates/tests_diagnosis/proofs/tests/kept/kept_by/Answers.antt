use Rattle.std.proofs.Common.{◌≡◌, ◌∙◌, List, Bool, All, length, sym, subst}
use Rattle.tests_diagnosis.proofs.tests.kept.kept_by.Goals as goal

pub returns-clause-widths : goal.returns-clause-widths
returns-clause-widths c =
    let same = c.in_ok-patterns.ensures.list ∙ c.into_kept-vectors.ensures.vectors in
    subst (λ (vectors : List (List Bool)). All (λ v. length v ≡ c.args.keeper.circuit.sources) vectors) (sym same) c.into_kept-vectors.ensures.keeper.splits.widths
