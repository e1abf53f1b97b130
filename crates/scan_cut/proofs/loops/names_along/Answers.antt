use Rattle.std.proofs.Common.{◌∙◌, ◌++◌, ◌∷◌, [], List, ℕ, map, take, get_or, sym, ap}
use Rattle.std.proofs.lemmas.List.{map_more}
use Rattle.scan_cut.proofs.loops.names_along.Goals as goal

pub loop-line-preserved : goal.loop-line-preserved
loop-line-preserved c =
    let text : ℕ → List ℕ = λ line. get_or c.args.names.now line [] in
    let lines = c.args.lines.now in
    let at = c.loop-line.line-index in
    c.in_ok-push.ensures.ok
    ∙ ap (λ found. found ++ c.text.result.now ∷ []) c.loop-line.invariant
    ∙ ap (λ last. map text (take at lines) ++ last ∷ []) c.text.ensures
    ∙ sym (map_more text lines at 0 c.loop-line-test.true)
