use Rattle.std.proofs.Common.{◌≡◌, ◌∙◌, ◌-◌, ◌∷◌, ◌++◌, [], length, get_or, take, drop, sym, ap, arith, length-drop}
use Rattle.std.proofs.lemmas.List.{take_more, take_all}
use Rattle.net_model.proofs.topological.pins_from.Goals as goal

pub loop-line-preserved : goal.loop-line-preserved
loop-line-preserved c =
    let lines = c.args.lines.now in
    let items = take (length lines - c.args.start) (drop c.args.start lines) in
    c.in_ok-push.ensures.ok ∙ ap (λ xs. xs ++ get_or items c.loop-line.line-index 0 ∷ []) c.loop-line.invariant ∙ sym (take_more items c.loop-line.line-index 0 c.loop-line-test.true)

pub returns : goal.returns
returns c =
    let lines = c.args.lines.now in
    let rest = drop c.args.start lines in
    let all : take (length lines - c.args.start) rest ≡ rest = take_all (length lines - c.args.start) rest (omega (arith, length-drop c.args.start lines)) in
    c.loop-line.invariant ∙ take_all c.loop-line.line-index (take (length lines - c.args.start) rest) c.loop-line-test.false ∙ all
