use Rattle.std.proofs.Common.{◌≡◌, ◌∙◌, sym, arith}
use Rattle.text_fields.proofs.NumberLemmas.{number_once}
use Rattle.result_records.proofs.words.literal_with.Goals.{then-variable-eq0-via-then-variable-eq0, then-variable-eq0-via-else-variable-eq0+then-variable}
use Rattle.result_records.proofs.words.literal_with.Goals as goal

pub returns-then-variable-eq0 : goal.returns-then-variable-eq0
returns-then-variable-eq0 c = λ n small e.
    let same : n ≡ c.in_ok-variable.variable = number_once n c.in_ok-variable.variable (omega (arith, small.1)) c.in_ok-variable.ensures.0 (e ∙ sym c.in_ok-variable.ensures.1) in
    elim c.then-variable-eq0.branch [
      | then-variable-eq0-via-then-variable-eq0 w ↦ omega (arith, w.if-variable-eq0.true, same, small.0)
      | then-variable-eq0-via-else-variable-eq0+then-variable w ↦ omega (arith, w.if-variable.true, same, small.1)
    ]
