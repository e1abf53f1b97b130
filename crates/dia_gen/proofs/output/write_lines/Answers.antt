use Rattle.std.proofs.Common.{◌∙◌, ap}
use Rattle.net_model.specs.ClassTable.{ClassTable}
use Rattle.dia_gen.proofs.KeptLemmas.{kept_at_first}
use Rattle.dia_gen.proofs.output.write_lines.Goals as goal

pub returns-clause-ok : goal.returns-clause-ok
returns-clause-ok g c =
    let made = c.in_ok-summary.ensures.ok in
    let kept = c.patterns-kept.ensures.value ∙ ap (λ (t : ClassTable). t.patterns) c.classes.ensures.value ∙ kept_at_first c.requires.1.1 c.classes.ensures.keeper made.1.kept_are in
    (made.0, record { made = made.1; kept = kept }, made.2)
