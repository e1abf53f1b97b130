use Rattle.std.proofs.Common.{◌≡◌, ◌∙◌, true, get_or, ap, sym, subst}
use Rattle.net_model.specs.Circuit.{Circuit}
use Rattle.net_model.specs.Scope.{is_relevant}
use Rattle.net_model.proofs.Relevance.{relevant_shown}
use Rattle.pair_miter.proofs.reading.shown.Goals as goal

pub operand-requires-clause-relevant : goal.operand-requires-clause-relevant
operand-requires-clause-relevant c =
    let p = c.args.numbering.now in
    let same : c.positions.result.now ≡ p.circuit.positions = c.positions.ensures.value ∙ ap (λ (circuit : Circuit). circuit.positions) c.circuit.ensures.value in
    subst (λ xs. is_relevant p.circuit p.f p.g (get_or xs c.args.position 0) ≡ true) (sym same) (relevant_shown p.circuit p.f p.g c.args.position c.requires.position c.requires.reached)
