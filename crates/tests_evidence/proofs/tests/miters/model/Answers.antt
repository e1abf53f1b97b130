use Rattle.std.proofs.Common.{◌∙◌, Bool, true, List, set, ap}
use Rattle.tests_evidence.proofs.tests.miters.model.Goals as goal

pub returns : goal.returns
returns c =
    c.set-3.ensures ∙ ap (λ (b : List Bool). set b 3 true) (c.set-2.ensures ∙ ap (λ (b : List Bool). set b 1 true) (c.set.ensures ∙ ap (λ (b : List Bool). set b 0 true) c.in_ok-model.ensures))
