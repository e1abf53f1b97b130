use Rattle.std.proofs.Common.{◌∙◌, ℕ, List, [], ◌∷◌, ◌++◌, get_or, map, sym, ap, arith}
use Rattle.std.proofs.lemmas.List.{map_more, take_all}
use Rattle.table_dicts.proofs.by_class.regroup.Goals as goal

pub loop-group-preserved : goal.loop-group-preserved
loop-group-preserved c =
    let over : ℕ → ℕ = λ group. get_or c.args.outer.now group 0 in
    let at = c.loop-group.group-index in
    c.in_ok-push.ensures.ok
    ∙ (ap (λ (xs : List ℕ). xs ++ over (get_or c.args.inner.now at 0) ∷ []) c.loop-group.invariant ∙ sym (map_more over c.args.inner.now at 0 (omega arith)))

pub returns : goal.returns
returns c =
    let over : ℕ → ℕ = λ group. get_or c.args.outer.now group 0 in
    c.loop-group.invariant ∙ ap (map over) (take_all c.loop-group.group-index c.args.inner.now (omega arith))
