use Rattle.std.proofs.Common.{◌∙◌, ◌++◌, ◌∷◌, [], List, ℕ, map, take, get_or, sym, ap}
use Rattle.std.proofs.lemmas.List.{map_more}
use Rattle.scan_cut.proofs.parts.names.Goals as goal

pub loop-number-preserved : goal.loop-number-preserved
loop-number-preserved c =
    let text : ℕ → List ℕ = λ number. get_or c.args.statements.now.names number [] in
    let numbers = c.args.numbers.now in
    let at = c.loop-number.number-index in
    c.in_ok-push.ensures.ok
    ∙ ap (λ found. found ++ c.name.result.now ∷ []) c.loop-number.invariant
    ∙ ap (λ last. map text (take at numbers) ++ last ∷ []) c.name.ensures
    ∙ sym (map_more text numbers at 0 c.loop-number-test.true)
